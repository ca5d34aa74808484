use Rattle.std.proofs.Common.{take}
use Rattle.edi_syntax.specs.Positions.{StayInside}
use Rattle.edi_syntax.proofs.position.len_inside.Given as goal

abbrev pub invariant-loop-i : goal.invariant-loop-i
invariant-loop-i l = StayInside l.service (take l.i l.bytes)
