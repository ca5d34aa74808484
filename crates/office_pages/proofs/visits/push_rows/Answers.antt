use Rattle.std.proofs.Common.{string_bytes}
use Rattle.office_admission.specs.Setups.{setup_content}
use Rattle.office_reports.proofs.Standings.{next_row, shown}
use Rattle.office_pages.specs.Visits.{visit_row}
use Rattle.office_pages.proofs.visits.push_rows.Goals as goal

pub loop-visit-preserved : goal.loop-visit-preserved
loop-visit-preserved c =
    (next_row (visit_row (setup_content c.args.setup.now)) shown (string_bytes c.args.page.now) c.args.visits.now
    c.loop-visit.visit-index c.visit-item.result (string_bytes c.loop-visit.page) (string_bytes c.push_row.new.page)
    c.loop-visit-test.true c.visit-item.is (record { is = c.loop-visit.invariant }) c.in_ok-push_row.ensures).is
