-- Where a desk over the own rows of a store and the store's archives stand together.
use Rattle.std.specs.Prelude.{◌≡◌, ℕ, ◌<◌, Bool, List, Contains, filter, Ok, None, true}
use Rattle.sqlite_trees.specs.declared.store.Store.{Ghosts}
use Rattle.edi_syntax.specs.Interchange.{interchange_of}
use Rattle.office_replies.specs.{Delivering.Delivers, Events.Event, declared.deliver.Response.Response}
use Rattle.office_loading.specs.Closed.{ClosedContent, closed_content}
use Rattle.office_rows.specs.Rows.{Interchange, Rows}
use Rattle.office_admission.specs.{Given.IsGiven, Parties.parties_of, Setups.{SetupContent, setup_content}, Admission.admission}
use Rattle.office_history.specs.After.{content_after, machine_after}
use Rattle.office_parts.specs.{Away.{AreAway, lists_after}, Naming.AreHere, OwnLists.{ListName, rows_without_lists, without_lists}, Closing.is_closed}
use Rattle.office_parts.specs.{Archives.{Archive, archive_of, Hold}, LeftOver.rows_beyond, OwnTerminal.own_terminal, Parts.{Archived, ArePartsAfter}}
use Rattle.office_desk.specs.{Answers.AnswersNext, Calls.Leads, Desks.IsSound, Offices.DeskHolds, declared.desk.Desk.Desk}

-- The rows that a store has: beyond what is closed its own, and interchanges that are closed and still to be deleted,
-- which its archives hold.
pub record IsOwnWithRest (archived : Archived) (own rows : Rows) : Type 0 where
  pub beyond : rows_beyond archived.last_closed rows ≡ own
  pub rest : (i : Interchange) → Contains (filter (is_closed archived.last_closed) rows.interchanges) i →
      Contains archived.interchanges i

-- What a desk takes for closed is what the archives hold: the numbers, and visits up to that one.
pub record KnowsClosed (closed : ClosedContent) (archived : Archived) : Type 0 where
  pub numbers : (partner : ℕ) → closed.last_closed partner ≡ archived.last_closed partner
  pub visits : (number : ℕ) → closed.newest_closed < number → archived.stays number ≡ true

-- For that opening set-up, after those events: with the accounts so far it is the desk's set-up. The archives hold what
-- was put away, the desk knows it for closed, and holds the store's own rows and its own terminal, without the lists that
-- are away; with what was put away these are parts of the rows after the events.
pub record StandsBeside {S : Type 0} (g : Ghosts S) (archives : List Archive) (content : SetupContent) (es : List Event)
    (desk : Desk S g) : Type 0 where
  pub given : IsGiven content
  pub now_is : content_after content es ≡ setup_content desk.setup
  pub archived : Archived
  pub own : Rows
  pub whole : Rows
  pub parts : ArePartsAfter content es archived own whole
  pub hold : Hold archives archived
  pub knows : KnowsClosed (closed_content desk.closed) archived
  pub rows : Rows
  pub is_own : IsOwnWithRest archived own rows
  pub away : ListName → Bool
  pub lists : AreAway archives away content es own
  pub holds : DeskHolds g desk (rows_without_lists away rows)
      (without_lists away (own_terminal archived.stays (machine_after content es).terminal))

-- the desk's accounts admit the text under no number that is closed
abbrev pub IsBeyond : {S : Type 0} (g : Ghosts S) → List Archive → Desk S g → List ℕ → Type 0
IsBeyond g archives desk sent =
    (place : ℕ × ℕ) → admission (parties_of desk.setup) (interchange_of sent) ≡ Ok place →
    archive_of archives place.0 place.1 ≡ None

-- the desk's accounts admit the text, and it names no list that is away
abbrev pub NamesNoneAway : {S : Type 0} (g : Ghosts S) (archives : List Archive) (content : SetupContent)
    (es : List Event) (desk : Desk S g) → StandsBeside g archives content es desk → (sent : List ℕ) → Type 0
NamesNoneAway g archives content es desk stands sent =
    (place : ℕ × ℕ) → admission (parties_of desk.setup) (interchange_of sent) ≡ Ok place
    → AreHere stands.away (lists_after content es place.0 (interchange_of sent))

-- A text that is delivered to the desk, under no number that is closed, and that names no list that is away, is answered at
-- its place, or NotNow; and then desk and archives stand after it, or where they stood.
abbrev pub DeliveriesBeyondAreAnswered : {S : Type 0} → Ghosts S → Type 0
DeliveriesBeyondAreAnswered {S} g =
    (archives : List Archive) (content : SetupContent) (es : List Event) (old : Desk S g) (sent : List ℕ)
    (response : Response) (new : Desk S g) (stands : StandsBeside g archives content es old) →
    Leads g old sent response new → IsSound g new → IsBeyond g archives old sent →
    NamesNoneAway g archives content es old stands sent
    → Delivers (StandsBeside g archives content) (AnswersNext content) es sent response new
