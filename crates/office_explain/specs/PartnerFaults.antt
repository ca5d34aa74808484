-- What is wrong with a partner of the set-up files.
use Rattle.std.specs.{Prelude.{◌≡◌, ℕ, not, nat_le, List, [], ◌∷◌, length, take, drop, Option, None, Some, codes, is_some, if◌then◌else◌}, List.list_any}
use Rattle.std.specs.{Option.option_map_or, Str.bytes_eq}
use Rattle.office_admission.specs.{Given.is_party_code, Kinds.kind_named, Limits.most_partners}
use Rattle.office_explain.specs.{Entries.{Text, Record, NamedValue, AreRows, entry_of, section}, Said.names_of, Wrong.AreTexts}
use Rattle.office_explain.specs.declared.partner_faults.PartnerFault.{PartnerFault}
use Rattle.office_explain.specs.declared.partner_faults.PartnerFault.TheVariants.{Code, Kind, Twice, Number}

-- with a partner after these others: its code, its kind, its code again, or that it is one too many
abbrev pub fault_of_partner : List NamedValue → NamedValue → Option PartnerFault
fault_of_partner others partner =
    if not (is_party_code partner.0) then Some Code
    else if not (is_some (kind_named partner.1)) then Some Kind
    else if list_any (λ (other : Text). bytes_eq other partner.0) (names_of others) then Some Twice
    else if nat_le most_partners (length others) then Some Number
    else None

-- with the first of some records, after others
abbrev pub fault_of_first : (others records : List Record) → Option PartnerFault
fault_of_first others [] = None
fault_of_first others (row ∷ rows) =
    option_map_or (fault_of_partner (section (codes "partner") others)) (entry_of (codes "partner") row) None

-- with the record after so many
abbrev pub fault_after : ℕ → List Record → Option PartnerFault
fault_after before rows = fault_of_first (take before rows) (drop before rows)

-- with the record after so many of a file, as far as its records are text
pub record IsPartnerFault (file : Text) (before : ℕ) (fault : Option PartnerFault) : Type 0 where
  pub rows : List Record
  pub texts : List Record
  pub of_file : AreRows file rows
  pub are_texts : AreTexts rows texts
  pub is : fault ≡ fault_after before texts
