use Rattle.std.proofs.Common.{◌≡◌, ◌∙◌, ap, ap₂, codes}
use Rattle.clap.specs.{Words.{app_of, new_app, with_rule}, Simple.app_of_fields}
use Rattle.office_command_line.specs.Commands.{serve_app}
use Rattle.office_command_line.proofs.builders.serve_command.Goals as goal

pub returns-clause-app : goal.returns-clause-app
unfolding serve_app
returns-clause-app c =
    let top : app_of c.after_help.result ≡ new_app (codes "serve") = ap app_of_fields c.after_help.ensures ∙ ap app_of_fields c.about.ensures ∙ c.new.ensures.app in
    let stores : app_of c.in_ok-arg.field-0 ≡ _ = c.in_ok-arg.ensures.shape c.word-store.ensures.local ∙ ap₂ with_rule top c.word-store.ensures.rule in
    let ports : app_of c.in_ok-arg-2.field-0 ≡ _ = c.in_ok-arg-2.ensures.shape c.word-port.ensures.local ∙ ap₂ with_rule stores c.word-port.ensures.rule in
    let counts : app_of c.in_ok-arg-3.field-0 ≡ _ = c.in_ok-arg-3.ensures.shape c.word-count.ensures.local ∙ ap₂ with_rule ports c.word-count.ensures.rule in
    let logs : app_of c.in_ok-arg-4.field-0 ≡ _ = c.in_ok-arg-4.ensures.shape c.flag-log.ensures.local ∙ ap₂ with_rule counts c.flag-log.ensures.rule in
    let aheads : app_of c.in_ok-arg-5.field-0 ≡ _ = c.in_ok-arg-5.ensures.shape c.valued-ahead.ensures.local ∙ ap₂ with_rule logs c.valued-ahead.ensures.rule in
    c.in_ok-serve.ensures.shape c.valued-host.ensures.local ∙ ap₂ with_rule aheads c.valued-host.ensures.rule
