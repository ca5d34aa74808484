use Rattle.std.proofs.Common.{◌≡◌, ◌∙◌, ap, ap₂, codes}
use Rattle.clap.specs.{Words.{app_of, new_app, with_rule}, Simple.app_of_fields}
use Rattle.office_command_line.specs.Commands.{report_app}
use Rattle.office_command_line.proofs.builders.report_command.Goals as goal

pub returns-clause-app : goal.returns-clause-app
unfolding report_app
returns-clause-app c =
    let top : app_of c.after_help.result ≡ new_app (codes "report") = ap app_of_fields c.after_help.ensures ∙ ap app_of_fields c.about.ensures ∙ c.new.ensures.app in
    let stores : app_of c.in_ok-arg.field-0 ≡ _ = c.in_ok-arg.ensures.shape c.word-store.ensures.local ∙ ap₂ with_rule top c.word-store.ensures.rule in
    let kinds : app_of c.in_ok-arg-2.field-0 ≡ _ = c.in_ok-arg-2.ensures.shape c.word-kind.ensures.local ∙ ap₂ with_rule stores c.word-kind.ensures.rule in
    let keys : app_of c.in_ok-arg-3.field-0 ≡ _ = c.in_ok-arg-3.ensures.shape c.word_if_any-key.ensures.local ∙ ap₂ with_rule kinds c.word_if_any-key.ensures.rule in
    let jsons : app_of c.in_ok-arg-4.field-0 ≡ _ = c.in_ok-arg-4.ensures.shape c.flag-json.ensures.local ∙ ap₂ with_rule keys c.flag-json.ensures.rule in
    c.in_ok-report.ensures.shape c.flag-csv.ensures.local ∙ ap₂ with_rule jsons c.flag-csv.ensures.rule
