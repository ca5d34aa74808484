-- The terminal and its partners.
use Rattle.std.specs.Prelude.{ℕ, List, string_bytes}
use Rattle.office_admission.specs.declared.setup.Setup.{Setup}
pub use Rattle.office_admission.specs.SetupAccounts.{partner_codes, partner_kinds, partner_from}

-- the terminal's own code, and those of the partners that have an account
pub record Parties : Type 0 where
  pub terminal : List ℕ
  pub partners : List (List ℕ)

-- those that a set-up names
abbrev pub parties_of : Setup → Parties
parties_of setup = record { terminal = string_bytes setup.terminal; partners = partner_codes setup.partners.items }
