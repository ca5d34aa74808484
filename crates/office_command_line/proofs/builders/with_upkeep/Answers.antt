use Rattle.std.proofs.Common.{◌≡◌, ◌∙◌, ap, ap₂}
use Rattle.clap.specs.Words.{App, app_of, with_subcommand}
use Rattle.office_command_line.proofs.builders.with_upkeep.Goals as goal

pub returns : goal.returns
returns c =
    let accounts : app_of c.in_ok-office.office ≡ _ = c.in_ok-office.ensures.shape c.in_ok-account.ensures.local ∙ ap (with_subcommand (app_of c.args.office)) (ap (λ (a : App). a.top) c.in_ok-account.ensures.app) in
    let migrates : app_of c.in_ok-office-2.office ≡ _ = c.in_ok-office-2.ensures.shape c.in_ok-migrate.ensures.local ∙ ap₂ with_subcommand accounts (ap (λ (a : App). a.top) c.in_ok-migrate.ensures.app) in
    let closes : app_of c.in_ok-office-3.office ≡ _ = c.in_ok-office-3.ensures.shape c.in_ok-close.ensures.local ∙ ap₂ with_subcommand migrates (ap (λ (a : App). a.top) c.in_ok-close.ensures.app) in
    let explains : app_of c.in_ok-office-4.office ≡ _ = c.in_ok-office-4.ensures.shape c.in_ok-explain.ensures.local ∙ ap₂ with_subcommand closes (ap (λ (a : App). a.top) c.in_ok-explain.ensures.app) in
    c.in_ok-office-5.ensures.shape c.demo_command-demo.ensures.local ∙ ap₂ with_subcommand explains (ap (λ (a : App). a.top) c.demo_command-demo.ensures.app)
