-- The partners' accounts, and which of them a code names.
use Rattle.std.specs.{Prelude.{◌≡◌, ℕ, ◌+◌, List, [], ◌∷◌, map, string_bytes, Option, None, Some, All, IsTrue, Vec, if◌then◌else◌}, HashMap.{HashMap, get_by}}
use Rattle.std.specs.{Str.bytes_eq, declared.alloc.Global.Global}
use Rattle.edi_messages.specs.declared.codes.PartnerKind.{PartnerKind}
use Rattle.office_admission.specs.{PartyCodes.is_party_code, declared.setup.Account.Account}

-- the codes of accounts
abbrev pub partner_codes : List Account → List (List ℕ)
partner_codes accounts = map (λ account. string_bytes account.code) accounts

-- what each of them is
abbrev pub partner_kinds : List Account → List PartnerKind
partner_kinds accounts = map (λ account. account.kind) accounts

-- the code of a partner, and what it is
abbrev pub account_contents : List Account → List (List ℕ × PartnerKind)
account_contents accounts = map (λ account. (string_bytes account.code, account.kind)) accounts

-- each has a code that a partner may have
abbrev pub AreCoded : List Account → Type 0
AreCoded accounts = All (λ (partner : List ℕ × PartnerKind). IsTrue (is_party_code partner.0)) (account_contents accounts)

-- the number of the first partner with a code, counting from a number on
abbrev pub partner_from : ℕ → List ℕ → List (List ℕ) → Option ℕ
partner_from number code [] = None
partner_from number code (partner ∷ partners) =
    if bytes_eq code partner then Some number else partner_from (number + 1) code partners

-- the index that a map has for a code
abbrev pub index_in : {S : Type 0} → HashMap (Vec ℕ Global) ℕ S → List ℕ → Option ℕ
index_in indexes code = get_by (λ key. bytes_eq code key.items) indexes

-- the map has the index of the first account with each code, and no other
abbrev pub AreIndexed : {S : Type 0} → List Account → HashMap (Vec ℕ Global) ℕ S → Type 0
AreIndexed accounts indexes = (code : List ℕ) → index_in indexes code ≡ partner_from 0 code (partner_codes accounts)
