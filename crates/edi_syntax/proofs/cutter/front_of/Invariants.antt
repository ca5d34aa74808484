use Rattle.std.proofs.Common.{◌≡◌, length, take}
use Rattle.edi_syntax.proofs.cutter.front_of.Given as goal

abbrev pub invariant-loop-i : goal.invariant-loop-i
invariant-loop-i l = record { long : length l.front ≡ 9; filled : take l.i l.front ≡ take l.i l.text }
