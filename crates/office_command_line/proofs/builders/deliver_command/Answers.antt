use Rattle.std.proofs.Common.{◌≡◌, ◌∙◌, ap, ap₂, codes}
use Rattle.clap.specs.{Words.{app_of, new_app, with_rule}, Simple.app_of_fields}
use Rattle.office_command_line.specs.Commands.{deliver_app}
use Rattle.office_command_line.proofs.builders.deliver_command.Goals as goal

pub returns-clause-app : goal.returns-clause-app
unfolding deliver_app
returns-clause-app c =
    let top : app_of c.after_help.result ≡ new_app (codes "deliver") = ap app_of_fields c.after_help.ensures ∙ ap app_of_fields c.about.ensures ∙ c.new.ensures.app in
    c.in_ok-deliver.ensures.shape c.word-file.ensures.local ∙ ap₂ with_rule (c.in_ok-arg.ensures.shape c.word-store.ensures.local ∙ ap₂ with_rule top c.word-store.ensures.rule) c.word-file.ensures.rule
