use Rattle.std.proofs.Common.{◌≡◌, ◌+◌, ◌<◌, ◌^◌, length, count_by}
use Rattle.office_reports.specs.Lists.{is_done_line, list_contents}
use Rattle.office_pages.proofs.lists.done_count.Given as goal

abbrev pub invariant-loop-line : goal.invariant-loop-line
invariant-loop-line l =
    (goal.iterator-loop-line).can_next l.line-iterator ×
    (goal.iterator-loop-line).is_finite l.line-iterator ×
    (l.done + count_by is_done_line (list_contents l.line-iterator) ≡ count_by is_done_line (list_contents l.initial.line-iterator)) ×
    (length l.initial.line-iterator < 2 ^ 63)
