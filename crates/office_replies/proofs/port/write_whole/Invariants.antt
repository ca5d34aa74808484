use Rattle.std.{specs.{Io.KnownBytes.Appends, declared.io.Error.Error}, proofs.Common.{◌≡◌, ◌≤◌, ℕ, List, Result, length, take, drop}}
use Rattle.office_replies.specs.Writes.{WritesOn}
use Rattle.office_replies.proofs.port.write_whole.Given as goal

-- so many bytes were written, by as many writes as there were turns
abbrev pub invariant-writes : goal.invariant-writes
invariant-writes g l = record {
  within : l.written ≤ length l.bytes;
  appended : Appends (g.W.Write.contents l.fn.writer) (g.W.Write.contents l.writer) (take l.written l.bytes);
  writes : (results : List (Result ℕ Error)) × WritesOn g.W.Sink.takes l.fn.writer l.bytes results l.writer (drop l.written l.bytes) × (length results ≡ l._turn);
}
