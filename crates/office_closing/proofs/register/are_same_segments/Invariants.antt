use Rattle.std.proofs.Common.{◌≡◌, take}
use Rattle.office_closing.proofs.register.are_same_segments.Given as goal

abbrev pub invariant-loop-index : goal.invariant-loop-index
invariant-loop-index l = take l.index l.one ≡ take l.index l.other
