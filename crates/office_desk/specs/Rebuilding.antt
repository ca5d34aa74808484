-- A desk's rows stand in the order of arrival, whatever comes; and what they keep, delivered in that order to a new desk,
-- makes the same office.
use Rattle.std.specs.Prelude.{◌≡◌, ℕ, ◌<◌, ◌≤◌, List, [], All, drop, length, map, Option, None, Some}
use Rattle.sqlite.specs.{Effect.Database, Held.{Held, state}, Order.column, declared.types.Value.TheVariants.Blob}
use Rattle.sqlite_trees.specs.declared.store.Store.{Ghosts}
use Rattle.office_replies.specs.{Delivering.{AreAnswered, LeadsOn}, Events.Event, declared.deliver.Response.Response}
use Rattle.office_rows.specs.{Opening.opening_rows, Stored.HasRows, Tables.interchange_table, Places.ArePlaced}
use Rattle.office_admission.specs.Setups.{SetupContent}
use Rattle.office_history.specs.{After.content_after, Laws.HasNoMigration}
use Rattle.office_parts.specs.Journal.{kept_texts}
use Rattle.office_loading.specs.Pages.{IsPage, lines_of, most_page_bytes}
use Rattle.office_desk.specs.{Answers.AnswersNext, Calls.{Leads, OnlyLooks}, Desks.{IsSound, OpensAt}, Looking.DeskHands, Noting.IsNow, Offices.OpensOffice}
use Rattle.office_desk.specs.{Order.{IsInOrder, StandsInOrder}, declared.desk.Desk.Desk}

-- ---- the order of arrival

-- the rows of a new store are in order
abbrev pub NewStoresAreInOrder : Type 0
NewStoresAreInOrder = (content : SetupContent) (db : Database) → HasRows (opening_rows content) db → IsInOrder content [] db

-- a desk that is opened on rows in order stands in order
abbrev pub OpenedStandInOrder : {S : Type 0} → Ghosts S → Type 0
OpenedStandInOrder {S} g =
    (found : Held S) (desk : Desk S g) (content : SetupContent) (es : List Event) (opens : OpensAt g content es desk) →
    OpensOffice g (state g found) desk → IsInOrder content es (state g found).committed →
    StandsInOrder g opens.opening es desk

-- so does one that only looked
abbrev pub LooksStayInOrder : {S : Type 0} → Ghosts S → Type 0
LooksStayInOrder {S} g =
    (old new : Desk S g) (content : SetupContent) (es : List Event) → OnlyLooks g old new → IsSound g new →
    StandsInOrder g content es old → StandsInOrder g content es new

-- each delivery is answered at its place, and the desk stands in order after those that were answered
abbrev pub DeliveriesStayInOrder : {S : Type 0} → Ghosts S → Type 0
DeliveriesStayInOrder {S} g =
    (old new : Desk S g) (texts : List (List ℕ)) (responses : List Response) →
    LeadsOn (Leads g) old texts responses new → IsSound g new → (content : SetupContent) (es : List Event) →
    StandsInOrder g content es old → AreAnswered (StandsInOrder g content) (AnswersNext content) es new texts responses

-- ---- the office made again

-- the table has these texts, in the order of its rowids
pub record KeepsTexts (texts : List (List ℕ)) (db : Database) : Type 0 where
  pub placed : ArePlaced 1 (db.trees interchange_table.tree)
  pub bodies : map (λ row. column row 3) (db.trees interchange_table.tree) ≡ map Blob texts

-- those of a desk that stands in order are the journal
abbrev pub DesksKeepJournals : {S : Type 0} → Ghosts S → Type 0
DesksKeepJournals {S} g =
    (content : SetupContent) (es : List Event) (desk : Desk S g) → StandsInOrder g content es desk →
    KeepsTexts (kept_texts content es) (state g desk.conn).committed

-- a page of those texts after the first `from`; or none exactly if there are fewer
abbrev pub HandsTexts : List (List ℕ) → ℕ → Option (List ℕ) → Type 0
HandsTexts texts from None = length texts < from
HandsTexts texts from (Some lines) =
    (from ≤ length texts) × (page : List (List ℕ)) × IsPage most_page_bytes (drop from texts) page
    × (lines ≡ lines_of page)

-- what a desk that stands in order hands out is a page of the journal
abbrev pub DesksHandOutJournals : {S : Type 0} → Ghosts S → Type 0
DesksHandOutJournals {S} g =
    (content : SetupContent) (es : List Event) (desk : Desk S g) (from : ℕ) (found : Option (List ℕ)) →
    StandsInOrder g content es desk → DeskHands g desk from found → HandsTexts (kept_texts content es) from found

-- The texts of one desk, delivered in that order to a new desk with its set-up and accounts: where each is answered, the new
-- desk stands at the events of the first. So it has its rows, in their order, and its terminal, and from then on answers
-- every text as the first would.
abbrev pub DesksAreRebuilt : {S : Type 0} → Ghosts S → Type 0
DesksAreRebuilt {S} g =
    (content : SetupContent) (es : List Event) (first opened new : Desk S g) (texts : List (List ℕ))
    (responses : List Response) →
    HasNoMigration es → StandsInOrder g content es first → KeepsTexts texts (state g first.conn).committed →
    StandsInOrder g (content_after content es) [] opened → LeadsOn (Leads g) opened texts responses new →
    All IsNow responses → IsSound g new → StandsInOrder g content es new
