use Rattle.std.proofs.Common.{◌≡◌, length}
use Rattle.edi_syntax.specs.Reading.{are_segments}
use Rattle.edi_syntax.proofs.reader.are_segments.Given as goal

abbrev pub invariant-loop-rest : goal.invariant-loop-rest
invariant-loop-rest l = are_segments l.table.service l.fn.bytes ≡ are_segments l.table.service l.rest

abbrev pub decreases-loop-rest : goal.decreases-loop-rest
decreases-loop-rest l = length l.rest
