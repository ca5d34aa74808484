use Rattle.std.proofs.Common.{◌≡◌, ◌+◌, drop}
use Rattle.edi_syntax.specs.Reading.{breaks_len}
use Rattle.edi_syntax.proofs.cutter.len_of_breaks.Given as goal

abbrev pub invariant-loop-i : goal.invariant-loop-i
invariant-loop-i l = breaks_len l.bytes ≡ l.i + breaks_len (drop l.i l.bytes)
