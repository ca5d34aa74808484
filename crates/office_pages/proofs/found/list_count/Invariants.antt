use Rattle.std.proofs.Common.{◌≡◌, ◌+◌, ◌<◌, ◌^◌, length, count_by}
use Rattle.office_reports.specs.Calls.{lists_content}
use Rattle.office_pages.specs.Found.{is_found_list}
use Rattle.office_pages.proofs.found.list_count.Given as goal

abbrev pub invariant-loop-vessel : goal.invariant-loop-vessel
invariant-loop-vessel l =
    (goal.iterator-loop-vessel).can_next l.vessel-iterator ×
    (goal.iterator-loop-vessel).is_finite l.vessel-iterator ×
    (l.count + count_by (is_found_list l.typed) (lists_content l.vessel-iterator) ≡ count_by (is_found_list l.typed) (lists_content l.initial.vessel-iterator)) ×
    (length l.initial.vessel-iterator < 2 ^ 63)
