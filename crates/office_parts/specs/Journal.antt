-- The journal: the texts that an office keeps, in the order of arrival.
use Rattle.std.specs.Prelude.{◌≡◌, ℕ, List, [], ◌∷◌, ◌++◌, All, map, length, take, drop, ◌≤◌, Ok, Err, if◌then◌else◌}
use Rattle.edi_syntax.specs.Interchange.{interchange_of}
use Rattle.partner_core.specs.Deliveries.{Delivery, is_used}
use Rattle.terminal_core.specs.declared.change.Version.{Version}
use Rattle.office_replies.specs.{Events.{Event, delivered, migrated, added}, declared.deliver.Fault.Fault}
use Rattle.office_admission.specs.{Setups.{SetupContent, parties_in}, Accounts.content_after, Admission.admission, Deliveries.deliveries_of}
use Rattle.office_parts.specs.Kept.{kept, IsFirst}

abbrev pub text_of : Delivery → List ℕ
text_of d = d.text

-- the texts that are kept after events, those that wait among them, in the order of arrival
abbrev pub kept_texts : SetupContent → List Event → List (List ℕ)
kept_texts content es = map text_of (kept (deliveries_of content es))

-- what the journal got by later events
abbrev pub texts_since : SetupContent → List Event → List Event → List (List ℕ)
texts_since content earlier since =
    drop (length (kept_texts content earlier)) (kept_texts content (earlier ++ since))

-- the deliveries of these texts, in this order
abbrev pub delivered_all : List (List ℕ) → List Event
delivered_all texts = map delivered texts

-- the accounts that events add, without anything that was delivered
abbrev pub accounts_in : List Event → List Event
accounts_in [] = []
accounts_in (delivered text ∷ es) = accounts_in es
accounts_in (migrated version ∷ es) = accounts_in es
accounts_in (added code kind ∷ es) = added code kind ∷ accounts_in es

-- ---- the laws

-- a text that is kept is the first under its number, has no CR and LF at its ends, and the accounts so far admit it
pub record IsEntry (content : SetupContent) (es : List Event) (d : Delivery) : Type 0 where
  pub first : IsFirst (deliveries_of content es) d
  pub stripped : interchange_of d.text ≡ d.text
  pub admitted : admission (parties_in (content_after content es)) d.text ≡ Ok (d.partner, d.number)

abbrev pub KeptTextsAreEntries : Type 0
KeptTextsAreEntries =
    (content : SetupContent) (es : List Event) → All (IsEntry content es) (kept (deliveries_of content es))

-- What an event adds: a text that is admitted under a free number adds itself as the last, and nothing else is added.
pub record JournalGrows : Type 0 where
  pub admitted : (content : SetupContent) (es : List Event) (sent : List ℕ) (partner number : ℕ) →
      admission (parties_in (content_after content es)) (interchange_of sent) ≡ Ok (partner, number)
      → kept_texts content (es ++ delivered sent ∷ [])
      ≡ kept_texts content es
      ++ (if is_used (deliveries_of content es) partner number then [] else interchange_of sent ∷ [])
  pub refused : (content : SetupContent) (es : List Event) (sent : List ℕ) (fault : Fault) →
      admission (parties_in (content_after content es)) (interchange_of sent) ≡ Err fault
      → kept_texts content (es ++ delivered sent ∷ []) ≡ kept_texts content es
  pub account : (content : SetupContent) (es : List Event) (code kind : List ℕ) →
      kept_texts content (es ++ added code kind ∷ []) ≡ kept_texts content es
  pub migration : (content : SetupContent) (es : List Event) (version : Version) →
      kept_texts content (es ++ migrated version ∷ []) ≡ kept_texts content es

-- after some of the events the journal was just these first texts
pub record WasJournal (content : SetupContent) (es : List Event) (texts : List (List ℕ)) : Type 0 where
  pub earlier : List Event
  pub later : List Event
  pub parts : es ≡ earlier ++ later
  pub texts_are : kept_texts content earlier ≡ texts

-- each front of the journal was the journal at some place of the events
abbrev pub FrontsWereJournals : Type 0
FrontsWereJournals =
    (content : SetupContent) (es : List Event) (count : ℕ) → count ≤ length (kept_texts content es)
    → WasJournal content es (take count (kept_texts content es))
