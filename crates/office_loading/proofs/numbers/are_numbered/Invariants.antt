use Rattle.std.{specs.Prelude.slice_get, proofs.Common.{◌≡◌, ℕ, ◌+◌, ◌<◌, ◌≤◌, Some}}
use Rattle.office_loading.specs.declared.numbers.PartnerRow.{PartnerRow}
use Rattle.office_loading.proofs.numbers.are_numbered.Given as goal

abbrev pub invariant-loop-index : goal.invariant-loop-index
invariant-loop-index l = (k : ℕ) (row : PartnerRow) → k < l.index → slice_get l.partners k ≡ Some row → (row.id ≡ k + 1) × (1 ≤ row.next) × (row.next ≤ 1000000000)
