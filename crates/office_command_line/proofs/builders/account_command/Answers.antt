use Rattle.std.proofs.Common.{◌≡◌, ◌∙◌, ap, ap₂, codes}
use Rattle.clap.specs.{Words.{app_of, new_app, with_rule}, Simple.app_of_fields}
use Rattle.office_command_line.specs.Commands.{account_app}
use Rattle.office_command_line.proofs.builders.account_command.Goals as goal

pub returns-clause-app : goal.returns-clause-app
unfolding account_app
returns-clause-app c =
    let top : app_of c.after_help.result ≡ new_app (codes "account") = ap app_of_fields c.after_help.ensures ∙ ap app_of_fields c.about.ensures ∙ c.new.ensures.app in
    c.in_ok-account.ensures.shape c.word-kind.ensures.local ∙ ap₂ with_rule (c.in_ok-arg-2.ensures.shape c.word-code.ensures.local ∙ ap₂ with_rule (c.in_ok-arg.ensures.shape c.word-store.ensures.local ∙ ap₂ with_rule top c.word-store.ensures.rule) c.word-code.ensures.rule) c.word-kind.ensures.rule
