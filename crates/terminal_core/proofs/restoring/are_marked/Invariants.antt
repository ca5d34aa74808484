use Rattle.std.{specs.Prelude.{slice_get, slice_index_or}, proofs.Common.{◌≡◌, ℕ, ◌<◌, Some, true, false, is_none}}
use Rattle.terminal_core.specs.declared.visits.Visit.{Visit}
use Rattle.terminal_core.proofs.restoring.are_marked.Given as goal

abbrev pub invariant-loop-index : goal.invariant-loop-index
invariant-loop-index l = (k : ℕ) (visit : Visit) → k < l.index → slice_get l.visits k ≡ Some visit → is_none visit.departure ≡ true → slice_index_or l.marks k false ≡ true
