-- the bytes that were counted and those that are left
use Rattle.std.proofs.Common.{◌≡◌, ◌+◌, ◌≤◌, length, drop, false}
use Rattle.edi_syntax.specs.Parts.{value_of}
use Rattle.edi_syntax.proofs.component.Component.len_by_bytes.Given as goal

abbrev pub invariant-loop-byte : goal.invariant-loop-byte
invariant-loop-byte l = record {
  counted : length (value_of l.self.service false l.self.text.now) ≡ l.len + length (value_of l.self.service l.released (drop l.byte-index l.self.text.now));
  within : l.len ≤ l.byte-index;
}
