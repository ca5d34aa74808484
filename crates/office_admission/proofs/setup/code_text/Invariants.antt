use Rattle.std.proofs.Common.{◌≡◌, ◌++◌}
use Rattle.edi_syntax.specs.Segment.{value, bytes_left}
use Rattle.office_admission.proofs.setup.code_text.Given as goal

abbrev pub invariant-loop-byte : goal.invariant-loop-byte
invariant-loop-byte l = l.text.items ++ bytes_left l.byte-iterator ≡ value l.fn.code
