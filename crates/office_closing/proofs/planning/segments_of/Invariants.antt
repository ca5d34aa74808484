use Rattle.std.proofs.Common.{◌≡◌, ◌++◌, drop}
use Rattle.office_closing.specs.Copies.{segments_of}
use Rattle.office_closing.proofs.planning.segments_of.Given as goal

abbrev pub invariant-loop-closed : goal.invariant-loop-closed
invariant-loop-closed l =
    l.segments.items ++ segments_of l.place (drop l.closed-index l.numbers) ≡ segments_of l.place l.numbers
