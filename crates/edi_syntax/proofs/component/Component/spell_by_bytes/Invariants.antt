-- what was written and what is left are the value
use Rattle.std.proofs.Common.{◌≡◌, ◌++◌}
use Rattle.edi_syntax.specs.{Segment.{value, bytes_left}, Spelling.spelling}
use Rattle.edi_syntax.proofs.component.Component.spell_by_bytes.Given as goal

abbrev pub invariant-loop-byte : goal.invariant-loop-byte
invariant-loop-byte l = record {
  whole : value l.self ≡ l.yielded ++ bytes_left l.byte-iterator;
  written : l.out.items ≡ l.fn.out.items ++ spelling l.yielded;
}
