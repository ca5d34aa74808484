use Rattle.std.proofs.Common.{◌≡◌, ◌∙◌, ap, ap₂, codes}
use Rattle.clap.specs.{Words.{app_of, new_app, with_rule}, Simple.app_of_fields}
use Rattle.office_command_line.specs.Commands.{migrate_app}
use Rattle.office_command_line.proofs.builders.migrate_command.Goals as goal

pub returns-clause-app : goal.returns-clause-app
unfolding migrate_app
returns-clause-app c =
    let top : app_of c.after_help.result ≡ new_app (codes "migrate") = ap app_of_fields c.after_help.ensures ∙ ap app_of_fields c.about.ensures ∙ c.new.ensures.app in
    c.in_ok-migrate.ensures.shape c.word-new.ensures.local ∙ ap₂ with_rule (c.in_ok-arg.ensures.shape c.word-old.ensures.local ∙ ap₂ with_rule top c.word-old.ensures.rule) c.word-new.ensures.rule
