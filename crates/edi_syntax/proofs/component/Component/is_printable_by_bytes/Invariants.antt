use Rattle.std.{specs.List.list_all, proofs.Common.◌≡◌}
use Rattle.edi_syntax.specs.{Characters.is_printable, Segment.{value, bytes_left}}
use Rattle.edi_syntax.proofs.component.Component.is_printable_by_bytes.Given as goal

abbrev pub invariant-loop-byte : goal.invariant-loop-byte
invariant-loop-byte l = list_all is_printable (value l.self) ≡ list_all is_printable (bytes_left l.byte-iterator)
