use Rattle.std.proofs.{Common.{◌≡◌, ◌∙◌, ap, codes, true}, lemmas.Result.IfOk-weaker}
use Rattle.clap.specs.{Words.{app_of, new_app}, Simple.{app_of_fields, on_top}}
use Rattle.office_command_line.specs.Commands.{office_app, needs_subcommand, with_daily_work, with_upkeep}
use Rattle.office_command_line.proofs.builders.office_command.Goals as goal

pub returns : goal.returns
unfolding office_app
returns c =
    let versioned : app_of c.version.result ≡ on_top (λ s. record s { has_version = true }) (new_app (codes "office")) =
    ap app_of_fields c.version.ensures ∙ ap (on_top (λ s. record s { has_version = true })) (ap app_of_fields c.about.ensures ∙ c.new.ensures.app) in
    let top : app_of c.subcommand_required-office.result ≡ needs_subcommand (new_app (codes "office")) =
    ap app_of_fields c.subcommand_required-office.ensures ∙ ap (on_top (λ s. record s { subcommand_required = true })) versioned in
    let daily = c.in_ok-office.ensures ∙ ap with_daily_work top in
    IfOk-weaker c.with_upkeep.result _ _ (λ command is. is ∙ ap with_upkeep daily) c.with_upkeep.ensures
