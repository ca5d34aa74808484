use Rattle.std.proofs.Common.{string_bytes}
use Rattle.office_admission.specs.Setups.{setup_content}
use Rattle.office_reports.{specs.Visits.visit_line, proofs.Standings.{all_rows, next_row, none_yet, shown}}
use Rattle.office_reports.proofs.visits.push_visits.Goals as goal

pub loop-visit-init : goal.loop-visit-init
loop-visit-init c = none_yet (visit_line (setup_content c.args.setup.now)) shown (string_bytes c.args.text.now) c.args.visits.now

pub loop-visit-preserved : goal.loop-visit-preserved
loop-visit-preserved c =
    next_row (visit_line (setup_content c.args.setup.now)) shown (string_bytes c.args.text.now) c.args.visits.now c.loop-visit.visit-index c.visit-item.result
    (string_bytes c.loop-visit.text) (string_bytes c.push_visit.new.text) c.loop-visit-test.true c.visit-item.is c.loop-visit.invariant c.in_ok-push_visit.ensures

pub returns : goal.returns
returns c = all_rows (visit_line (setup_content c.args.setup.now)) shown (string_bytes c.args.text.now) c.args.visits.now c.loop-visit.visit-index (string_bytes c.loop-visit.text) c.loop-visit-test.false c.loop-visit.invariant
