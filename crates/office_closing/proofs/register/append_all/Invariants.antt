use Rattle.std.proofs.Common.{◌≡◌, ◌++◌, take}
use Rattle.office_closing.proofs.register.append_all.Given as goal

abbrev pub invariant-loop-segment : goal.invariant-loop-segment
invariant-loop-segment l = l.segments.items ≡ l.fn.segments.items ++ take l.segment-index l.more
