use Rattle.std.{specs.Prelude.slice_get, proofs.Common.{◌≡◌, ◌≢◌, ℕ, ◌<◌, Some, string_bytes}}
use Rattle.office_loading.specs.declared.numbers.PartnerRow.{PartnerRow}
use Rattle.office_loading.proofs.numbers.has_code.Given as goal

abbrev pub invariant-loop-partner : goal.invariant-loop-partner
invariant-loop-partner l = (k : ℕ) (row : PartnerRow) → k < l.partner-index → slice_get l.partners k ≡ Some row → string_bytes row.code ≢ l.code
