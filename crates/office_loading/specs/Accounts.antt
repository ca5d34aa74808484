-- The accounts that rows of partners say: what the code relies on, and no caller has to read.
use Rattle.std.specs.{Prelude.{◌≡◌, ℕ, ◌≤◌, List, length, map, string_bytes, true}, List.list_all}
use Rattle.edi_messages.specs.declared.codes.PartnerKind.{PartnerKind}
use Rattle.office_admission.specs.{Given.{is_party_code, AreDistinct}, Limits.most_partners}
use Rattle.office_rows.specs.Office.{AreAccounts}
use Rattle.office_loading.specs.{Contents.partner_content, declared.numbers.PartnerRow.PartnerRow}

-- the code of each partner, and what it is
abbrev pub accounts_in : List PartnerRow → List (List ℕ × PartnerKind)
accounts_in rows = map (λ (row : PartnerRow). (string_bytes row.code, row.kind)) rows

-- these are 1 to 999 accounts, numbered from 1 on, with codes of partners, no two alike, and next numbers
pub record AreWholeAccounts (rows : List PartnerRow) : Type 0 where
  pub counted : (1 ≤ length rows) × (length rows ≤ most_partners)
  pub numbered : AreAccounts 1 (map partner_content rows) (accounts_in rows)
  pub coded : list_all (λ (row : PartnerRow). is_party_code (string_bytes row.code)) rows ≡ true
  pub distinct : AreDistinct (accounts_in rows)
