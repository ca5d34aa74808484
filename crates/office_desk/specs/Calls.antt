-- What one call does to a desk: all that is said of it, in one piece, so that whoever knows a desk only by its traits can
-- hand it on.
use Rattle.std.specs.Prelude.{◌≡◌, ℕ, List, Ok, Option, Result, OnOk}
use Rattle.sqlite.specs.{Held.state, State.HasCleanDisk}
use Rattle.sqlite_trees.specs.declared.store.Store.{Ghosts}
use Rattle.edi_syntax.specs.Interchange.{interchange_of}
use Rattle.terminal_core.specs.State.{TerminalState}
use Rattle.office_replies.specs.{Adding.Adds, Delivering.{AreAnswered, Delivers, LeadsOn}, Events.Event, declared.accounts.AccountAnswer.AccountAnswer}
use Rattle.office_replies.specs.declared.deliver.Response.{Response}
use Rattle.office_reports.specs.{Looking.{Look, Tells}, declared.query.NotNow.NotNow}
use Rattle.office_admission.specs.{Parties.parties_of, Setups.{SetupContent, setup_content}, Accounts.account_answer, Admission.admission}
use Rattle.office_admission.specs.Refusals.{RefusedSurely}
use Rattle.office_rows.specs.{Rows.Rows, Stored.HasRows, Tables.office_schema}
use Rattle.office_desk.specs.{Accounts.{AddsOver, AnswersAccount, LeavesAdded, LeavesAddedOver, Says}, Answers.AnswersNext, Desks.{IsSound, StandsFor, Refuses}}
use Rattle.office_desk.specs.{Crashes.{Leaves, LeavesAll, LeavesBehind, LeavesNoMore}, Kept.{AnswersOver, Office}, Leaving.LeavesOver, Offices.DeskHolds}
use Rattle.office_desk.specs.{Looking.{DeskShows, IsOpenAt, ShowsUnfitReply}, Noting.{IsNow, NotesCause, NotesFault, NotesLook, NotesStore}}
use Rattle.office_desk.specs.{Order.{AddsInOrder, DeliversInOrder}, declared.desk.Desk.Desk}

-- A text was delivered, with that response. From whatever events it is answered at its place; over any office's rows by
-- what is kept; what a crash leaves, from both; the order of arrival is kept; the set-up stays; what is refused is refused so, and
-- touches nothing; why it is NotNow; and what is admitted and answered otherwise is so over an open connection.
pub record Leads {S : Type 0} (g : Ghosts S) (old : Desk S g) (sent : List ℕ) (response : Response) (new : Desk S g)
    : Type 0 where
  pub delivers : IsSound g new → (content : SetupContent) (es : List Event) → StandsFor g content es old →
      Delivers (StandsFor g content) (AnswersNext content) es sent response new
  pub office : IsSound g new → (before : Office) → DeskHolds g old before.rows before.terminal →
      AnswersOver g before sent response new
  pub setup : new.setup ≡ old.setup
  pub closed : new.closed ≡ old.closed
  pub stays : IsSound g new → IsSound g old
  pub clean : HasCleanDisk (state g new.conn) → HasCleanDisk (state g old.conn)
  pub crash : IsSound g old → HasCleanDisk (state g new.conn) → (content : SetupContent) (es : List Event) →
      StandsFor g content es old → LeavesBehind content es sent response (state g new.conn)
  pub office_crash : IsSound g old → HasCleanDisk (state g new.conn) → (before : Office) →
      DeskHolds g old before.rows before.terminal →
      LeavesOver (setup_content old.setup) (admission (parties_of old.setup) (interchange_of sent))
      (interchange_of sent) before response (state g new.conn)
  pub order : DeliversInOrder g old sent response new
  pub refused : Refuses g sent old response new
  pub sure : RefusedSurely (parties_of old.setup) (interchange_of sent) response
  pub noted : NotesFault response old.last_fault new.last_fault
  pub answered : HasCleanDisk (state g new.conn) → (place : ℕ × ℕ) →
      admission (parties_of old.setup) (interchange_of sent) ≡ Ok place → IsNow response → IsSound g new

-- An account was asked for under a code, of a kind, with that answer. From whatever events it is answered at its place;
-- by the desk's own set-up, whatever rows it has; what a crash leaves, from both; the order of arrival is kept; and why it
-- is NotNow.
pub record Enrols {S : Type 0} (g : Ghosts S) (old : Desk S g) (code kind : List ℕ) (answer : AccountAnswer)
    (new : Desk S g) : Type 0 where
  pub adds : IsSound g new → (content : SetupContent) (es : List Event) → StandsFor g content es old →
      Adds (StandsFor g content) (AnswersAccount content) es code kind answer new
  pub closed : new.closed ≡ old.closed
  pub stays : IsSound g new → IsSound g old
  pub says : Says (account_answer (setup_content old.setup).partners code kind) code answer
  pub over : IsSound g new → AddsOver g old code kind answer new
  pub crash : IsSound g old → HasCleanDisk (state g new.conn) → (content : SetupContent) (es : List Event) →
      StandsFor g content es old → LeavesAdded content es code kind answer (state g new.conn)
  pub crash_over : IsSound g old → HasCleanDisk (state g new.conn) → (rows : Rows) →
      HasRows rows (state g old.conn).committed →
      LeavesAddedOver (setup_content old.setup).partners rows code kind answer (state g new.conn)
  pub order : AddsInOrder g old code kind answer new
  pub noted : NotesStore answer old.last_fault new.last_fault

-- The desk stands where it stood, and holds what it held: what is committed stays as it is; a crash leaves nothing that it
-- would not have left before; the set-up stays; and what isn't sound stays so.
pub record OnlyLooks {S : Type 0} (g : Ghosts S) (old new : Desk S g) : Type 0 where
  pub same : IsSound g new → (content : SetupContent) (es : List Event) → StandsFor g content es old →
      StandsFor g content es new
  pub holds : IsSound g new → (rows : Rows) (terminal : TerminalState) → DeskHolds g old rows terminal →
      DeskHolds g new rows terminal
  pub committed : IsSound g new → (state g new.conn).committed ≡ (state g old.conn).committed
  pub setup : new.setup ≡ old.setup
  pub closed : new.closed ≡ old.closed
  pub crash : IsSound g old → HasCleanDisk (state g new.conn) → (state g old.conn).committed.schema ≡ office_schema →
      LeavesNoMore (state g old.conn) (state g new.conn)
  pub stays : IsSound g new → IsSound g old
  pub clean : HasCleanDisk (state g new.conn) → HasCleanDisk (state g old.conn)

-- A report, or a page of the kept texts, was asked for. What was found is what the rows tell; the desk only looked; why it
-- can't be reported now: over an office's rows only by the store or the memory, or by what is asked for; and where it's told
-- that the office can be asked, the store is open.
pub record Looks {S : Type 0} (g : Ghosts S) (old : Desk S g) (look : Look) (found : Result (Option (List ℕ)) NotNow)
    (new : Desk S g) : Type 0 where
  pub told : IsSound g new → Tells (DeskShows g old look) found
  pub looks : OnlyLooks g old new
  pub noted : NotesLook found old.last_fault new.last_fault
  pub cause : IsSound g new → (rows : Rows) (terminal : TerminalState) → DeskHolds g old rows terminal →
      NotesCause (ShowsUnfitReply (setup_content old.setup) rows look) found new.last_fault
  pub is_open : HasCleanDisk (state g new.conn) → OnOk found (IsOpenAt look (state g new.conn))

-- ---- what follows of deliveries, one after the other

-- each is answered at its place, by a desk that stands after some events
abbrev pub DeliveriesAreAnswered : {S : Type 0} → Ghosts S → Type 0
DeliveriesAreAnswered {S} g =
    (old new : Desk S g) (texts : List (List ℕ)) (responses : List Response) →
    LeadsOn (Leads g) old texts responses new → IsSound g new → (content : SetupContent) (es : List Event) →
    StandsFor g content es old → AreAnswered (StandsFor g content) (AnswersNext content) es new texts responses

-- what a crash leaves behind them, of a desk that stands after some events
abbrev pub DeliveriesOutlastCrashes : {S : Type 0} → Ghosts S → Type 0
DeliveriesOutlastCrashes {S} g =
    (old new : Desk S g) (texts : List (List ℕ)) (responses : List Response) →
    LeadsOn (Leads g) old texts responses new → IsSound g new → (content : SetupContent) (es : List Event) →
    StandsFor g content es old → Leaves content es (state g old.conn) →
    LeavesAll content es texts responses (state g new.conn)
