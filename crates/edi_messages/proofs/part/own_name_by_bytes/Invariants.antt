-- what was read and what is left are the value
use Rattle.std.proofs.Common.{◌≡◌, ◌++◌, ◌≤◌, length, take}
use Rattle.edi_syntax.specs.Segment.{value, bytes_left}
use Rattle.edi_messages.proofs.part.own_name_by_bytes.Given as goal

abbrev pub invariant-loop-byte : goal.invariant-loop-byte
invariant-loop-byte l = record {
  passed : value l.fn.component ≡ l.yielded ++ bytes_left l.byte-iterator;
  counted : length l.yielded ≡ l.len;
  within : l.len ≤ 35;
  room : length l.name ≡ 35;
  written : take l.len l.name ≡ l.yielded;
}
