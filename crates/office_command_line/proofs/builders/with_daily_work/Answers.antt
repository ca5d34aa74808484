use Rattle.std.proofs.Common.{◌≡◌, ◌∙◌, ap, ap₂}
use Rattle.clap.specs.Words.{App, app_of, with_subcommand}
use Rattle.office_command_line.proofs.builders.with_daily_work.Goals as goal

pub returns : goal.returns
returns c =
    let inits : app_of c.in_ok-office.office ≡ _ = c.in_ok-office.ensures.shape c.in_ok-init.ensures.local ∙ ap (with_subcommand (app_of c.args.office)) (ap (λ (a : App). a.top) c.in_ok-init.ensures.app) in
    let delivers : app_of c.in_ok-office-2.office ≡ _ = c.in_ok-office-2.ensures.shape c.in_ok-deliver.ensures.local ∙ ap₂ with_subcommand inits (ap (λ (a : App). a.top) c.in_ok-deliver.ensures.app) in
    let serves : app_of c.in_ok-office-3.office ≡ _ = c.in_ok-office-3.ensures.shape c.in_ok-serve.ensures.local ∙ ap₂ with_subcommand delivers (ap (λ (a : App). a.top) c.in_ok-serve.ensures.app) in
    let reports : app_of c.in_ok-office-4.office ≡ _ = c.in_ok-office-4.ensures.shape c.in_ok-report.ensures.local ∙ ap₂ with_subcommand serves (ap (λ (a : App). a.top) c.in_ok-report.ensures.app) in
    c.in_ok-office-5.ensures.shape c.in_ok-texts.ensures.local ∙ ap₂ with_subcommand reports (ap (λ (a : App). a.top) c.in_ok-texts.ensures.app)
