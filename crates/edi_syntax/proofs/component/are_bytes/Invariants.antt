-- the values are the same where what is left of them is
use Rattle.std.proofs.Common.{◌≡◌, ◌++◌}
use Rattle.edi_syntax.specs.Segment.{bytes_left}
use Rattle.edi_syntax.proofs.component.are_bytes.Given as goal

abbrev pub invariant-loop-byte : goal.invariant-loop-byte
invariant-loop-byte l = record {
  passed : bytes_left l.fn.bytes ≡ l.yielded ++ bytes_left l.byte-iterator;
  same : l.fn.other ≡ l.yielded ++ l.rest;
}
