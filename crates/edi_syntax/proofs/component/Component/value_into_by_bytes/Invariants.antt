-- what was written and what is left are the value
use Rattle.std.proofs.Common.{◌≡◌, ◌++◌}
use Rattle.edi_syntax.specs.Segment.{value, bytes_left}
use Rattle.edi_syntax.proofs.component.Component.value_into_by_bytes.Given as goal

abbrev pub invariant-loop-byte : goal.invariant-loop-byte
invariant-loop-byte l = record {
  whole : value l.self ≡ l.yielded ++ bytes_left l.byte-iterator;
  written : l.out.items ≡ l.fn.out.items ++ l.yielded;
}
