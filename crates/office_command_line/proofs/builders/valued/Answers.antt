use Rattle.std.proofs.Common.{◌∙◌, ap, Some}
use Rattle.clap.specs.{Words.{Rule, rule_of}, declared.builder.ArgAction.TheVariants.Set}
use Rattle.office_command_line.proofs.builders.valued.Goals as goal

pub returns-clause-rule : goal.returns-clause-rule
returns-clause-rule c =
    ap rule_of c.help.ensures ∙ ap rule_of c.value_name.ensures
    ∙ ap (λ (r : Rule). record r { value_names = 1 })
    (ap rule_of c.action.ensures ∙ ap (λ (r : Rule). record r { action = Some Set }) (ap rule_of c.long.ensures ∙ ap (λ (r : Rule). record r { long = Some c.args.name.now }) c.new.ensures.rule))
