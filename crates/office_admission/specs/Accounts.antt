-- The accounts so far: those of the set-up, and those that were added.
use Rattle.std.specs.Prelude.{ℕ, ◌+◌, nat_lt, List, [], ◌∷◌, ◌++◌, map, length, Option, None, Some, if◌then◌else◌}
use Rattle.edi_messages.specs.{declared.codes.PartnerKind.PartnerKind, declared.codes.PartnerKind.TheVariants.{Gate, Line, Quay, Yard}}
use Rattle.partner_core.specs.Numbered.{with_number}
use Rattle.office_replies.specs.{Events.{Event, delivered, migrated, added}, declared.accounts.AccountFault.AccountFault}
use Rattle.office_replies.specs.declared.accounts.AccountFault.TheVariants.{Partner, Kind, Accounts}
use Rattle.office_admission.specs.{Kinds.kind_named, Limits.most_partners, Parties.partner_from, PartyCodes.is_party_code, Setups.SetupContent}

-- what is said of an account that is to be added: it is added under this number, it is known under this one, or it is
-- refused
pub data AccountContent : Type 0 where
  added_as : ℕ → AccountContent
  known_as : ℕ → AccountContent
  refused_for : AccountFault → AccountContent

-- an account: the code of a partner, and what it is
abbrev pub AccountPair : Type 0
AccountPair = List ℕ × PartnerKind

-- the code is known under that number, whose account has this kind
abbrev pub by_own_kind : ℕ → PartnerKind → Option PartnerKind → AccountContent
by_own_kind id Gate (Some Gate) = known_as id
by_own_kind id Line (Some Line) = known_as id
by_own_kind id Quay (Some Quay) = known_as id
by_own_kind id Yard (Some Yard) = known_as id
by_own_kind id kind own = refused_for Kind

-- a code that is new gets the number after the last, where there is room
abbrev pub by_number : List AccountPair → PartnerKind → Option ℕ → AccountContent
by_number accounts kind (Some id) =
    by_own_kind id kind (with_number (map (λ (account : AccountPair). account.1) accounts) id)
by_number accounts kind None =
    if nat_lt (length accounts) most_partners then added_as (length accounts + 1) else refused_for Accounts

abbrev pub by_kind : List AccountPair → List ℕ → Option PartnerKind → AccountContent
by_kind accounts code None = refused_for Partner
by_kind accounts code (Some kind) =
    by_number accounts kind (partner_from 1 code (map (λ (account : AccountPair). account.0) accounts))

-- what is said of a code and a kind that are to be added to these accounts: first, whether they are of a partner's form,
-- then, whether the code has an account, and at last, whether there is room
abbrev pub account_answer : List AccountPair → List ℕ → List ℕ → AccountContent
account_answer accounts code kind = if is_party_code code then by_kind accounts code (kind_named kind) else refused_for Partner

-- the accounts with the one that was added
abbrev pub with_answer : List AccountPair → List ℕ → Option PartnerKind → AccountContent → List AccountPair
with_answer accounts code (Some kind) (added_as id) = accounts ++ (code, kind) ∷ []
with_answer accounts code kind answer = accounts

abbrev pub accounts_with : List AccountPair → List ℕ → List ℕ → List AccountPair
accounts_with accounts code kind = with_answer accounts code (kind_named kind) (account_answer accounts code kind)

-- the set-up with one event more: only an account that is added changes it
abbrev pub content_with : SetupContent → Event → SetupContent
content_with content (delivered text) = content
content_with content (migrated version) = content
content_with content (added code kind) = record content { partners = accounts_with content.partners code kind }

-- the set-up after events: the accounts so far
abbrev pub content_after : SetupContent → List Event → SetupContent
content_after content [] = content
content_after content (event ∷ events) = content_after (content_with content event) events
