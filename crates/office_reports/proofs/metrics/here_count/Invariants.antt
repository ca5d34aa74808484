use Rattle.std.proofs.Common.{◌≡◌, ◌≤◌, count_by, map, take}
use Rattle.terminal_core.specs.Rows.{visit_content}
use Rattle.office_reports.specs.Metrics.{is_here}
use Rattle.office_reports.proofs.metrics.here_count.Given as goal

abbrev pub invariant-loop-visit : goal.invariant-loop-visit
invariant-loop-visit l = record {
  counted : l.count ≡ count_by is_here (map visit_content (take l.visit-index l.visits));
  few : l.count ≤ l.visit-index;
}
