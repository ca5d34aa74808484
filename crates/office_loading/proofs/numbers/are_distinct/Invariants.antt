use Rattle.std.{specs.Prelude.slice_get, proofs.Common.{◌≡◌, ◌≢◌, ℕ, ◌<◌, Some, string_bytes}}
use Rattle.office_loading.specs.declared.numbers.PartnerRow.{PartnerRow}
use Rattle.office_loading.proofs.numbers.are_distinct.Given as goal

abbrev pub invariant-loop-index : goal.invariant-loop-index
invariant-loop-index l = (j k : ℕ) (a b : PartnerRow) → j < k → k < l.index → slice_get l.partners j ≡ Some a → slice_get l.partners k ≡ Some b → string_bytes a.code ≢ string_bytes b.code
