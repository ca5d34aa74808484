use Rattle.std.proofs.Common.{◌≡◌, ◌+◌, ◌<◌, ◌^◌, length, count_by}
use Rattle.office_reports.specs.Calls.{lists_content}
use Rattle.office_pages.specs.Start.{has_open}
use Rattle.office_pages.proofs.start.open_count.Given as goal

abbrev pub invariant-loop-list : goal.invariant-loop-list
invariant-loop-list l =
    (goal.iterator-loop-list).can_next l.list-iterator ×
    (goal.iterator-loop-list).is_finite l.list-iterator ×
    (l.count + count_by has_open (lists_content l.list-iterator) ≡ count_by has_open (lists_content l.initial.list-iterator)) ×
    (length l.initial.list-iterator < 2 ^ 63)
