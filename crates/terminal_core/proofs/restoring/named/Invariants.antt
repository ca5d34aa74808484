use Rattle.std.{specs.List.list_any, proofs.Common.{◌≡◌, ℕ, ◌<◌, false, length, take, get_or}}
use Rattle.terminal_core.proofs.Whole.{names_number}
use Rattle.terminal_core.proofs.restoring.named.Given as goal

abbrev pub invariant-loop-place : goal.invariant-loop-place
invariant-loop-place l = record {
  len : length l.marks.items ≡ length l.numbers;
  marks : (k : ℕ) → k < length l.numbers → get_or l.marks.items k false ≡ list_any (names_number l.numbers k) (take l.place-index l.places);
}
