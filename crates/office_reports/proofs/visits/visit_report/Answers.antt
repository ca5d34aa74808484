use Rattle.std.{specs.Option.option_map, proofs.Common.{Some, sym, ap, ◌∙◌}}
use Rattle.office_admission.specs.Setups.{setup_content}
use Rattle.office_reports.{specs.Visits.{rows_text, visits_content}, proofs.Standings.visits_stay}
use Rattle.office_reports.proofs.visits.visit_report.Goals as goal

pub returns-in_ok-visits_text-in-Some : goal.returns-in_ok-visits_text-in-Some
returns-in_ok-visits_text-in-Some c =
    ap Some c.in_ok-visits_text-in-Some.ensures
    ∙ ap (option_map rows_text) (sym (ap (option_map visits_content) c.in-Some.is) ∙ c.in_ok-report.ensures)
    ∙ visits_stay (setup_content c.args.setup.now) c.args.container c.args.terminal.now

pub returns-in-None : goal.returns-in-None
returns-in-None c =
    ap (option_map rows_text) (sym (ap (option_map visits_content) c.in-None.is) ∙ c.in_ok-report.ensures)
    ∙ visits_stay (setup_content c.args.setup.now) c.args.container c.args.terminal.now
