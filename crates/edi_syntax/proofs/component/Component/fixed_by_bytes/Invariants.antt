use Rattle.std.proofs.Common.{◌≡◌, ◌++◌, ◌≤◌, length, take}
use Rattle.edi_syntax.specs.Segment.{value, bytes_left}
use Rattle.edi_syntax.proofs.component.Component.fixed_by_bytes.Given as goal

abbrev pub invariant-loop-byte : goal.invariant-loop-byte
invariant-loop-byte g l = record {
  passed : value l.self ≡ l.yielded ++ bytes_left l.byte-iterator;
  counted : length l.yielded ≡ l.len;
  within : l.len ≤ g.row.N;
  room : length l.text ≡ g.row.N;
  written : take l.len l.text ≡ l.yielded;
}
