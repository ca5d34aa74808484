-- Rows after events whose interchanges stand in the order of arrival.
use Rattle.std.specs.Prelude.{◌≡◌, ℕ, ◌+◌, ◌<◌, List, [], ◌∷◌, ◌++◌, map, None, Some, Err}
use Rattle.edi_messages.specs.declared.codes.PartnerKind.{PartnerKind}
use Rattle.edi_syntax.specs.Interchange.{interchange_of}
use Rattle.partner_core.specs.Deliveries.{Delivery, delivery, run}
use Rattle.terminal_core.specs.declared.change.Version.{Version}
use Rattle.office_replies.specs.{Events.{Event, delivered, migrated, added}, declared.deliver.Fault.Fault}
use Rattle.office_admission.specs.{Given.IsGiven, Kinds.kind_named, Setups.{SetupContent, parties_in}, Accounts.{content_after, account_answer, added_as}}
use Rattle.office_admission.specs.{Admission.admission, Deliveries.deliveries_of, Taking.MachineState}
use Rattle.sqlite.specs.{declared.types.Value.TheVariants.Blob, Order.{Row, column}}
use Rattle.office_rows.specs.{Tables.interchange_table, Values.interchange_values, Rows.{Interchange, Rows}, Effects.{with_waiting, with_partner}}
use Rattle.office_rows.specs.{Opening.opening_rows, Migrated.migrated_rows, Places.ArePlaced, InPlace.AreInPlace}
use Rattle.office_history.specs.{Cascade.{text_in, TakenContent, texts_with, with_run, AreTakenFrom}, After.{machine_after, AreAfterBy, AreAfter}}
use Rattle.office_history.specs.Laws.{IsFor, HasNoMigration}
use Rattle.office_parts.specs.{Kept.kept, Journal.kept_texts}

-- an interchange of the rows, as the delivery of its text
abbrev pub as_delivery : Interchange → Delivery
as_delivery i = delivery i.partner i.number i.body

-- the rows have the interchanges that are kept, in the order of arrival
abbrev pub AreInOrder : SetupContent → List Event → Rows → Type 0
AreInOrder content es rows = map as_delivery rows.interchanges ≡ kept (deliveries_of content es)

-- the rows after events, with their interchanges in the order of arrival
pub record AreAfterInOrder (content : SetupContent) (es : List Event) (rows : Rows) : Type 0 where
  pub after : AreAfter content es rows
  pub in_order : AreInOrder content es rows

-- ---- the laws

-- the bodies of such rows are the journal
abbrev pub BodiesAreJournal : Type 0
BodiesAreJournal =
    (content : SetupContent) (es : List Event) (rows : Rows) → AreAfterInOrder content es rows
    → map (λ (i : Interchange). i.body) rows.interchanges ≡ kept_texts content es

-- Where a table has the interchanges in place, its rows from rowid 1 on have the journal for their bodies: the row with
-- the rowid n has the n-th text.
abbrev pub StoredIsJournal : Type 0
StoredIsJournal =
    (content : SetupContent) (es : List Event) (rows : Rows) (stored : List Row) → AreAfterInOrder content es rows
    → AreInPlace interchange_table interchange_values rows.interchanges stored
    → ArePlaced 1 stored × (map (λ r. column r 3) stored ≡ map Blob (kept_texts content es))

-- the rows that opening a store writes
abbrev pub OpeningIsInOrder : Type 0
OpeningIsInOrder = (content : SetupContent) → AreAfterInOrder content [] (opening_rows content)

-- a text that isn't admitted leaves the rows, and they stay in order
abbrev pub RefusedStaysInOrder : Type 0
RefusedStaysInOrder =
    (content : SetupContent) (es : List Event) (rows : Rows) (sent : List ℕ) (fault : Fault) →
    AreAfterInOrder content es rows
    → admission (parties_in (content_after content es)) (interchange_of sent) ≡ Err fault
    → AreAfterInOrder content (es ++ delivered sent ∷ []) rows

-- so does a text under a used number
abbrev pub UsedStaysInOrder : Type 0
UsedStaysInOrder =
    (content : SetupContent) (es : List Event) (rows : Rows) (sent : List ℕ) (partner number : ℕ) (first : List ℕ) →
    AreAfterInOrder content es rows → IsFor content es sent partner number
    → text_in rows partner number ≡ Some first
    → AreAfterInOrder content (es ++ delivered sent ∷ []) rows

-- a text before its time is kept as the last
abbrev pub EarlyAddsInOrder : Type 0
EarlyAddsInOrder =
    (content : SetupContent) (es : List Event) (rows : Rows) (sent : List ℕ) (partner number : ℕ) →
    AreAfterInOrder content es rows → IsFor content es sent partner number
    → text_in rows partner number ≡ None → run (deliveries_of content es) partner + 1 < number
    → AreAfterInOrder content (es ++ delivered sent ∷ []) (with_waiting partner number (interchange_of sent) rows)

-- so is the text that is next; that it and others are taken moves no interchange
abbrev pub NextAddsInOrder : Type 0
NextAddsInOrder =
    (content : SetupContent) (es : List Event) (rows : Rows) (sent : List ℕ) (partner number : ℕ)
    (taken : List TakenContent) (machine : MachineState)
    → IsGiven content → AreAfterInOrder content es rows → IsFor content es sent partner number
    → text_in rows partner number ≡ None → number ≡ run (deliveries_of content es) partner + 1
    → AreTakenFrom partner (texts_with rows partner number (interchange_of sent)) number
    (machine_after content es) taken machine
    → AreAfterInOrder content (es ++ delivered sent ∷ []) (with_run partner number (interchange_of sent) taken rows)

-- an account that is added moves no interchange
abbrev pub AccountStaysInOrder : Type 0
AccountStaysInOrder =
    (content : SetupContent) (es : List Event) (rows : Rows) (code kind : List ℕ) (own : PartnerKind) (id : ℕ) →
    AreAfterInOrder content es rows → kind_named kind ≡ Some own
    → account_answer (content_after content es).partners code kind ≡ added_as id
    → AreAfterInOrder content (es ++ added code kind ∷ []) (with_partner id code own rows)

-- nor does a migration that leaves the interchanges as they stood
abbrev pub MigrationStaysInOrder : Type 0
MigrationStaysInOrder =
    (content : SetupContent) (version : Version) (es : List Event) (rows : Rows) → HasNoMigration es →
    AreAfterBy version content es rows → AreInOrder content es rows
    → AreAfterInOrder content (es ++ migrated version ∷ []) (migrated_rows rows)
