use Rattle.std.proofs.Common.{◌≡◌, ◌+◌, drop}
use Rattle.edi_syntax.specs.Reading.{breaks_len}
use Rattle.office_explain.proofs.explaining.first_from.Given as goal

abbrev pub invariant-loop-place : goal.invariant-loop-place
invariant-loop-place l = l.from + breaks_len (drop l.from l.file) ≡ l.place + breaks_len (drop l.place l.file)
