use Rattle.std.proofs.Common.{◌≡◌, ◌≤◌, ℕ, List, length, drop}
use Rattle.office_admission.specs.SetupAccounts.{index_in, partner_codes, partner_from}
use Rattle.office_admission.proofs.setup.indexes_of.Given as goal

abbrev pub invariant-loop-index : goal.invariant-loop-index
invariant-loop-index l = record {
  within : l.index ≤ length l.accounts;
  later : (code : List ℕ) → index_in l.indexes code ≡ partner_from l.index code (partner_codes (drop l.index l.accounts));
}
