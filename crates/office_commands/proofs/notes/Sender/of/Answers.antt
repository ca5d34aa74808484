use Rattle.std.proofs.Common.{ap, subst, ◌∙◌}
use Rattle.edi_syntax.specs.Interchange.{segments_in}
use Rattle.office_commands.specs.Senders.{IsSender}
use Rattle.office_commands.proofs.notes.Sender.of.Goals as goal

pub returns-in-Ok-in_head : goal.returns-in-Ok-in_head
returns-in-Ok-in_head c =
    subst (λ segments. IsSender segments c.in-Ok-in_head.sender) (c.in-Ok.ensures.ok.1 ∙ ap segments_in c.interchange_text-text.ensures.exact) c.in-Ok-in_head.ensures
