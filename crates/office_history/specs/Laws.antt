-- What the rows are after events: the laws.
use Rattle.std.specs.Prelude.{◌≡◌, ℕ, ◌+◌, ◌<◌, ◌≤◌, List, [], ◌∷◌, ◌++◌, length, Contains, None, Some, Ok, Err}
use Rattle.edi_messages.specs.declared.codes.PartnerKind.{PartnerKind}
use Rattle.edi_syntax.specs.{Interchange.interchange_of, Numbers.last_number}
use Rattle.partner_core.specs.{Deliveries.{delivery, run}, Answers.{AnswerModel, answer_of, Taken, Repeat, Waiting, Clash}}
use Rattle.terminal_core.specs.{Rows.ChangeContent, Changes.{TerminalRows, rows_with_all, AreApplicable}, State.TerminalState, Versions.newest}
use Rattle.terminal_core.specs.declared.change.Version.{Version}
use Rattle.office_admission.specs.{Admission.admission, Accounts.{content_after, account_answer, added_as}, Deliveries.deliveries_of, Kinds.kind_named}
use Rattle.office_admission.specs.{Setups.{SetupContent, parties_in}, Given.IsGiven, Taking.MachineState, TakingLaws.IsSoundMachine, Growth.with_account}
use Rattle.office_replies.specs.{Events.{Event, delivered, migrated, added}, declared.deliver.Fault.Fault}
use Rattle.sqlite.specs.Effect.{Database}
use Rattle.office_rows.specs.{Rows.{Partner, Rows}, Stored.{AreRows, HasRows}, Opened.{OpenedRows, Shows}, Office.IsOffice, Opening.opening_rows}
use Rattle.office_rows.specs.{Effects.{with_waiting, with_partner}, Migrated.{migrated_settings, migrated_rows}}
use Rattle.office_rows.specs.ByKey.{terminal_rows, ArePlacedOnce, AreListedOnce}
use Rattle.office_history.specs.Cascade.{text_in, TakenContent, with_changes, texts_with, with_run, AreTakenFrom}
use Rattle.office_history.specs.After.{opening_of, taking_in, migration_in, machine_after, reply_in, SaysSame, AreAfterBy, AreAfter}

-- ---- changes of the tables and of the terminal's rows

-- the tables' rows are by key these rows of the terminal, and no key stands twice
pub record AreRowsByKey (rows : Rows) (terminal : TerminalRows) : Type 0 where
  pub same : terminal_rows rows ≡ terminal
  pub placed_once : ArePlacedOnce rows.places
  pub listed_once : AreListedOnce rows.lines

-- applicable changes make of the tables' rows what they make of the terminal's
abbrev pub ChangesAgree : Type 0
ChangesAgree =
    (rows : Rows) (terminal : TerminalRows) (changes : List ChangeContent) → AreRowsByKey rows terminal →
    AreApplicable terminal changes
    → AreRowsByKey (with_changes changes rows) (rows_with_all terminal changes)

-- ---- before anything was delivered

-- the rows that opening writes are those after no event
abbrev pub OpeningIsAfterNone : Type 0
OpeningIsAfterNone = (content : SetupContent) → AreAfter content [] (opening_rows content)

-- what deliveries leave of a given set-up is sound
abbrev pub DeliveriesLeaveSound : Type 0
DeliveriesLeaveSound =
    (content : SetupContent) (es : List Event) → IsGiven content → IsSoundMachine (machine_after content es)

-- ---- what the rows tell

-- a text is kept for an account, under a number of an interchange
abbrev pub NumbersAreWithin : Type 0
NumbersAreWithin =
    (content : SetupContent) (es : List Event) (rows : Rows) (partner number : ℕ) (text : List ℕ) →
    AreAfter content es rows → text_in rows partner number ≡ Some text
    → (1 ≤ partner) × (partner ≤ length (content_after content es).partners) × (1 ≤ number) × (number ≤ last_number)

-- an account's next number is the one after its partner's run
abbrev pub NextFollowsRun : Type 0
NextFollowsRun =
    (content : SetupContent) (es : List Event) (rows : Rows) (account : Partner) → AreAfter content es rows →
    Contains rows.partners account
    → account.next ≡ run (deliveries_of content es) account.id + 1

-- ---- one delivery more

-- the accounts so far admit the text for that partner under that number
abbrev pub IsFor : SetupContent → List Event → List ℕ → ℕ → ℕ → Type 0
IsFor content es sent partner number =
    admission (parties_in (content_after content es)) (interchange_of sent) ≡ Ok (partner, number)

-- the rows are those after the delivery too, and the terminal is as it was
pub record AddsNoRow (content : SetupContent) (es : List Event) (sent : List ℕ) (rows : Rows) : Type 0 where
  pub rows_are : AreAfter content (es ++ delivered sent ∷ []) rows
  pub machine : machine_after content (es ++ delivered sent ∷ []) ≡ machine_after content es
  pub runs : (partner : ℕ) →
      run (deliveries_of content (es ++ delivered sent ∷ [])) partner ≡ run (deliveries_of content es) partner

-- what is refused adds nothing
abbrev pub RefusedAddsNoRow : Type 0
RefusedAddsNoRow =
    (content : SetupContent) (es : List Event) (rows : Rows) (sent : List ℕ) (fault : Fault) →
    AreAfter content es rows → admission (parties_in (content_after content es)) (interchange_of sent) ≡ Err fault
    → AddsNoRow content es sent rows

-- a text under a number that is used adds nothing
abbrev pub UsedAddsNoRow : Type 0
UsedAddsNoRow =
    (content : SetupContent) (es : List Event) (rows : Rows) (sent : List ℕ) (partner number : ℕ)
    (kept : List ℕ) → AreAfter content es rows → IsFor content es sent partner number
    → text_in rows partner number ≡ Some kept → AddsNoRow content es sent rows

-- a text before its time is kept
pub record AddsWaiting (content : SetupContent) (es : List Event) (sent : List ℕ) (rows : Rows) : Type 0 where
  pub rows_are : AreAfter content (es ++ delivered sent ∷ []) rows
  pub machine : machine_after content (es ++ delivered sent ∷ []) ≡ machine_after content es
  pub runs : (partner : ℕ) →
      run (deliveries_of content (es ++ delivered sent ∷ [])) partner ≡ run (deliveries_of content es) partner

abbrev pub EarlyAddsWaiting : Type 0
EarlyAddsWaiting =
    (content : SetupContent) (es : List Event) (rows : Rows) (sent : List ℕ) (partner number : ℕ) →
    AreAfter content es rows → IsFor content es sent partner number
    → text_in rows partner number ≡ None → run (deliveries_of content es) partner + 1 < number
    → AddsWaiting content es sent (with_waiting partner number (interchange_of sent) rows)

-- the text that is next is taken, and each that becomes next by it
pub record AddsRun (content : SetupContent) (es : List Event) (sent : List ℕ) (partner count : ℕ) (rows : Rows)
    (machine : MachineState) : Type 0 where
  pub rows_are : AreAfter content (es ++ delivered sent ∷ []) rows
  pub machine_is : machine ≡ machine_after content (es ++ delivered sent ∷ [])
  pub run_is : run (deliveries_of content (es ++ delivered sent ∷ [])) partner ≡ run (deliveries_of content es) partner + count
  pub other_runs : (other : ℕ) → (other ≡ partner → ⊥) →
      run (deliveries_of content (es ++ delivered sent ∷ [])) other ≡ run (deliveries_of content es) other

abbrev pub NextAddsRun : Type 0
NextAddsRun =
    (content : SetupContent) (es : List Event) (rows : Rows) (sent : List ℕ) (partner number : ℕ)
    (taken : List TakenContent) (machine : MachineState)
    → IsGiven content → AreAfter content es rows → IsFor content es sent partner number
    → text_in rows partner number ≡ None → number ≡ run (deliveries_of content es) partner + 1
    → AreTakenFrom partner (texts_with rows partner number (interchange_of sent)) number
    (machine_after content es) taken machine
    → AddsRun content es sent partner (length taken)
    (with_run partner number (interchange_of sent) taken rows) machine

-- ---- an account more

-- what is added to the rows is the account's own; the machine is as it was, with the account
pub record AddsAccount (content : SetupContent) (es : List Event) (code kind : List ℕ) (own : PartnerKind) (rows : Rows)
    : Type 0 where
  pub rows_are : AreAfter content (es ++ added code kind ∷ []) rows
  pub machine : machine_after content (es ++ added code kind ∷ []) ≡ with_account code own (machine_after content es)
  pub deliveries : deliveries_of content (es ++ added code kind ∷ []) ≡ deliveries_of content es

abbrev pub AccountAddsRow : Type 0
AccountAddsRow =
    (content : SetupContent) (es : List Event) (rows : Rows) (code kind : List ℕ) (own : PartnerKind) (id : ℕ) →
    AreAfter content es rows → kind_named kind ≡ Some own
    → account_answer (content_after content es).partners code kind ≡ added_as id
    → AddsAccount content es code kind own (with_partner id code own rows)

-- ---- a migration

abbrev pub HasNoMigration : List Event → Type 0
HasNoMigration es = migration_in es ≡ None

-- the rows of a store of an older version, with the version changed, are those after its events and the migration
abbrev pub MigrationGoesOn : Type 0
MigrationGoesOn =
    (content : SetupContent) (version : Version) (es : List Event) (rows : Rows) → HasNoMigration es →
    AreAfterBy version content es rows
    → AreAfter content (es ++ migrated version ∷ []) (migrated_rows rows)

-- ---- answers

-- what is reported of the text under that number, after those events
abbrev pub answer_model_of : SetupContent → List Event → ℕ → ℕ → List ℕ → AnswerModel
answer_model_of content es partner number sent =
    answer_of (taking_in newest content es) (opening_of (content_after content es)) (deliveries_of content es)
    (delivery partner number (interchange_of sent))

-- how the rows tell the answer
pub record AnswersBy (content : SetupContent) (es : List Event) (rows : Rows) (sent : List ℕ)
    (partner number : ℕ) : Type 0 where
  pub clash : (kept : List ℕ) → text_in rows partner number ≡ Some kept → (kept ≡ interchange_of sent → ⊥) →
      answer_model_of content es partner number sent ≡ Clash
  pub repeat : (reply : List ℕ) → text_in rows partner number ≡ Some (interchange_of sent) →
      reply_in rows partner number ≡ Some reply
      → answer_model_of content es partner number sent ≡ Repeat (Some reply)
  pub waits : text_in rows partner number ≡ Some (interchange_of sent) → reply_in rows partner number ≡ None
      → answer_model_of content es partner number sent ≡ Waiting (run (deliveries_of content es) partner + 1)
  pub early : text_in rows partner number ≡ None → run (deliveries_of content es) partner + 1 < number
      → answer_model_of content es partner number sent ≡ Waiting (run (deliveries_of content es) partner + 1)
  pub next : (first : TakenContent) (later : List TakenContent) (machine : MachineState) → IsGiven content
      → text_in rows partner number ≡ None → number ≡ run (deliveries_of content es) partner + 1
      → AreTakenFrom partner (texts_with rows partner number (interchange_of sent)) number
      (machine_after content es) (first ∷ later) machine
      → answer_model_of content es partner number sent ≡ Taken (Some first.reply)

abbrev pub RowsAnswer : Type 0
RowsAnswer =
    (content : SetupContent) (es : List Event) (rows : Rows) (sent : List ℕ) (partner number : ℕ) →
    AreAfter content es rows → IsFor content es sent partner number
    → AnswersBy content es rows sent partner number

-- ---- opening again

-- what the queries of all rows show gives the terminal back that the deliveries left
abbrev pub LoadingGivesState : Type 0
LoadingGivesState =
    (content : SetupContent) (es : List Event) (rows : Rows) (db : Database) (shown : OpenedRows)
    (other : SetupContent) (state : TerminalState)
    → IsGiven content → AreAfter content es rows → HasRows rows db → Shows db shown → IsOffice shown other state
    → state ≡ (machine_after content es).terminal

-- It gives a set-up that says the same as the opening one with the accounts so far. That is the opening one with those
-- codes and the accounts so far, and the rows are those after the same events at it.
pub record Reopens (content : SetupContent) (es : List Event) (rows : Rows) (other : SetupContent) : Type 0 where
  pub says : SaysSame other (content_after content es)
  pub given : IsGiven (record content { codes = other.codes })
  pub now : content_after (record content { codes = other.codes }) es ≡ other
  pub rows_are : AreAfter (record content { codes = other.codes }) es rows

abbrev pub LoadingGivesSetup : Type 0
LoadingGivesSetup =
    (content : SetupContent) (es : List Event) (rows : Rows) (db : Database) (shown : OpenedRows)
    (other : SetupContent) (state : TerminalState)
    → AreAfter content es rows → IsGiven content → HasRows rows db → Shows db shown → IsOffice shown other state
    → Reopens content es rows other

-- whatever came, the queries of all rows show those of an office: its own rows are never found damaged
abbrev pub RowsAreAnOffice : Type 0
RowsAreAnOffice =
    (content : SetupContent) (es : List Event) (rows : Rows) (db : Database) → IsGiven content →
    AreAfter content es rows → HasRows rows db
    → (shown : OpenedRows) × (state : TerminalState) × Shows db shown
    × IsOffice shown (content_after content es) state

-- Those of a store of an older version are never found damaged either: brought to the newest, what the queries show are
-- the rows of an office.
abbrev pub OlderRowsAreAnOffice : Type 0
OlderRowsAreAnOffice =
    (content : SetupContent) (version : Version) (es : List Event) (rows : Rows) (db : Database) → IsGiven content →
    AreAfterBy version content es rows → AreRows rows db.trees
    → (shown : OpenedRows) × (state : TerminalState) × Shows db shown
    × IsOffice (record shown { settings = migrated_settings shown.settings }) (content_after content es) state
