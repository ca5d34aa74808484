use Rattle.std.proofs.Common.{◌≡◌, ◌≤◌, count_by, map, take}
use Rattle.office_reports.specs.{Metrics.is_waited_for, Partners.partner_content}
use Rattle.office_reports.proofs.metrics.waited_for_count.Given as goal

abbrev pub invariant-loop-partner : goal.invariant-loop-partner
invariant-loop-partner l = record {
  counted : l.count ≡ count_by is_waited_for (map partner_content (take l.partner-index l.partners));
  few : l.count ≤ l.partner-index;
}
