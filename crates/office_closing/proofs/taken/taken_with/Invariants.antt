use Rattle.std.proofs.Common.{◌≡◌, filter, take}
use Rattle.office_closing.specs.Copies.{is_with}
use Rattle.office_closing.proofs.taken.taken_with.Given as goal

abbrev pub invariant-loop-segment : goal.invariant-loop-segment
invariant-loop-segment l = l.found.items ≡ filter (is_with l.archive) (take l.segment-index l.taken)
