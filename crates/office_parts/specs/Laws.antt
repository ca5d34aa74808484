-- The laws of a store and its archives.
use Rattle.std.specs.{Prelude.{◌≡◌, ℕ, ◌+◌, ◌<◌, ◌≤◌, Bool, true, List, [], ◌∷◌, ◌++◌, length, Contains, Option, None, Some}, List.AllByRecursion}
use Rattle.sqlite.specs.Effect.{Database}
use Rattle.edi_messages.specs.{Orders.OrderContent, declared.codes.PartnerKind.PartnerKind}
use Rattle.edi_syntax.specs.Interchange.{interchange_of}
use Rattle.partner_core.specs.{Deliveries.{first_text, run}, Answers.{Repeat, Clash}, Order.reply_of}
use Rattle.terminal_core.specs.{declared.change.Source.Source, declared.change.Version.Version, Changes.{TerminalRows, rows_of, rows_with_all, AreApplicable}}
use Rattle.terminal_core.specs.{Forms.IsWellFormed, Rows.{VisitContent, ChangeContent}, State.{TerminalState, IsWhole, last_number}, Step.step_by}
use Rattle.terminal_core.specs.Versions.{newest}
use Rattle.office_admission.specs.{Accounts.{content_after, account_answer, added_as}, Deliveries.deliveries_of, Given.IsGiven, Kinds.kind_named}
use Rattle.office_admission.specs.{Setups.SetupContent, Taking.{MachineState, interchange_taken_by, interchange_changes_by}}
use Rattle.office_replies.specs.Events.{Event, delivered, added}
use Rattle.office_rows.specs.{ByKey.terminal_rows, Effects.{with_waiting, with_partner}, Opened.{NumberKept, ShowsNumbers, OpenedRows, Shows}, Stored.HasRows}
use Rattle.office_rows.specs.Rows.{Interchange, ListingContent, Rows}
use Rattle.office_history.specs.{After.{opening_of, taking_in, machine_after, reply_in, AreAfter, AreKeptOnce}, Laws.{IsFor, answer_model_of, AddsRun}}
use Rattle.office_history.specs.Cascade.{text_in, TakenContent, texts_with, with_run, AreTakenFrom}
use Rattle.office_parts.specs.{OwnTerminal.{own_terminal, own_step, own_machine, MayStay, IsOfOwn}, Closing.{carried, archived_with, whole_with, MayClose}}
use Rattle.office_parts.specs.{Parts.{Archived, nothing_archived, rows_of_archives, ArePartsAfter}, Archives.{Archive, text_by, reply_by, Hold, HoldsWhatGoes}}
use Rattle.office_parts.specs.LeftOver.{rows_beyond}
use Rattle.office_loading.specs.{Checks.{numbers_beyond, AreKeptBeyond, AreOwnVisits}, OwnOffice.IsOwnOffice}

-- ---- the terminal

-- an order does to the store's own terminal what it does to the whole one: the same outcome, the same changes, and what
-- it leaves may stay so
pub record ActsAlike (stays : ℕ → Bool) (version : Version) (state : TerminalState) (source : Source)
    (order : OrderContent) : Type 0 where
  pub step : step_by version (own_terminal stays state) source order
      ≡ own_step stays (step_by version state source order)
  pub stay : MayStay stays (step_by version state source order).state.visits

abbrev pub OrdersActAlike : Type 0
OrdersActAlike =
    (stays : ℕ → Bool) (version : Version) (state : TerminalState) (source : Source) (order : OrderContent)
    → MayStay stays state.visits → ActsAlike stays version state source order

-- the store's own terminal is whole as the whole one is, and each of its values in its form
abbrev pub OwnTerminalsAreSound : Type 0
OwnTerminalsAreSound =
    (stays : ℕ → Bool) (state : TerminalState) → IsWhole state → IsWellFormed state → MayStay stays state.visits
    → IsWhole (own_terminal stays state) × IsWellFormed (own_terminal stays state)

-- applicable changes open and close no visit that was put away, and what they leave may stay so
abbrev pub ChangesAreOfOwn : Type 0
ChangesAreOfOwn =
    (stays : ℕ → Bool) (rows : TerminalRows) (changes : List ChangeContent) → MayStay stays rows.visits →
    AreApplicable rows changes
    → AllByRecursion (IsOfOwn stays) changes × MayStay stays (rows_with_all rows changes).visits

-- an interchange is taken by the store's own machine as by the whole one: the same reply, the same changes
pub record IsTakenAlike (stays : ℕ → Bool) (version : Version) (machine : MachineState) (partner : ℕ) (text : List ℕ)
    : Type 0 where
  pub taken : interchange_taken_by version (own_machine stays machine) partner text
      ≡ (
        own_machine stays (interchange_taken_by version machine partner text).0,
        (interchange_taken_by version machine partner text).1,
      )
  pub changes : interchange_changes_by version (own_machine stays machine) partner text
      ≡ interchange_changes_by version machine partner text
  pub stay : MayStay stays (interchange_taken_by version machine partner text).0.terminal.visits

abbrev pub InterchangesAreTakenAlike : Type 0
InterchangesAreTakenAlike =
    (stays : ℕ → Bool) (version : Version) (machine : MachineState) (partner : ℕ) (text : List ℕ)
    → IsWhole machine.terminal → MayStay stays machine.terminal.visits
    → IsTakenAlike stays version machine partner text

-- ---- what the parts tell

-- Of a number that is closed the archives tell text and reply, and the store has nothing under it; of any other the
-- store tells both.
pub record IsTold (content : SetupContent) (es : List Event) (archived : Archived) (own : Rows) (partner number : ℕ)
    : Type 0 where
  pub own_text : archived.last_closed partner < number →
      text_in own partner number ≡ first_text (deliveries_of content es) partner number
  pub own_reply : archived.last_closed partner < number →
      reply_in own partner number
      ≡ reply_of (taking_in newest content es) (opening_of (content_after content es)) (deliveries_of content es)
      partner number
  pub closed_text : 1 ≤ number → number ≤ archived.last_closed partner →
      text_in (rows_of_archives archived) partner number ≡ first_text (deliveries_of content es) partner number
  pub closed_reply : 1 ≤ number → number ≤ archived.last_closed partner →
      reply_in (rows_of_archives archived) partner number
      ≡ reply_of (taking_in newest content es) (opening_of (content_after content es)) (deliveries_of content es)
      partner number
  pub own_none : 1 ≤ number → number ≤ archived.last_closed partner → text_in own partner number ≡ None

abbrev pub NumbersAreTold : Type 0
NumbersAreTold =
    (content : SetupContent) (es : List Event) (archived : Archived) (own whole : Rows) (partner number : ℕ) →
    ArePartsAfter content es archived own whole → IsTold content es archived own partner number

-- a number that is closed is within its partner's run: so it is neither next nor one that waits
abbrev pub ClosedAreWithinRuns : Type 0
ClosedAreWithinRuns =
    (content : SetupContent) (es : List Event) (archived : Archived) (own whole : Rows) (partner : ℕ) →
    ArePartsAfter content es archived own whole
    → archived.last_closed partner ≤ run (deliveries_of content es) partner

-- A delivery under a number that is closed is a clash or a repeat, by the text that its archive keeps and with the reply
-- that it keeps; and the rows are those after it too.
pub record IsAnsweredByArchives (content : SetupContent) (es : List Event) (archives : List Archive)
    (archived : Archived) (own whole : Rows) (sent : List ℕ) (partner number : ℕ) : Type 0 where
  pub text : List ℕ
  pub reply : List ℕ
  pub has_text : text_by archives partner number ≡ Some text
  pub has_reply : reply_by archives partner number ≡ Some reply
  pub clash : (text ≡ interchange_of sent → ⊥) → answer_model_of content es partner number sent ≡ Clash
  pub repeat : text ≡ interchange_of sent → answer_model_of content es partner number sent ≡ Repeat (Some reply)
  pub parts : ArePartsAfter content (es ++ delivered sent ∷ []) archived own whole

abbrev pub ArchivesAnswer : Type 0
ArchivesAnswer =
    (content : SetupContent) (es : List Event) (archives : List Archive) (archived : Archived) (own whole : Rows)
    (sent : List ℕ) (partner number : ℕ) → ArePartsAfter content es archived own whole → Hold archives archived →
    IsFor content es sent partner number → number ≤ archived.last_closed partner
    → IsAnsweredByArchives content es archives archived own whole sent partner number

-- the number after the store's newest visit is above that of each visit that ever was
abbrev pub NewVisitsAreNew : Type 0
NewVisitsAreNew =
    (content : SetupContent) (es : List Event) (archived : Archived) (own whole : Rows) (visit : VisitContent) →
    IsGiven content → ArePartsAfter content es archived own whole → Contains whole.visits visit
    → visit.number < last_number own.visits + 1

-- an opening of the store's own rows gives its own terminal
abbrev pub OwnRowsGiveOwnTerminal : Type 0
OwnRowsGiveOwnTerminal =
    (content : SetupContent) (es : List Event) (archived : Archived) (own whole : Rows) →
    ArePartsAfter content es archived own whole
    → terminal_rows own ≡ rows_of (own_terminal archived.stays (machine_after content es).terminal)

-- ---- what events make of the parts

-- a store that was never closed is a part, beside nothing, and no archive holds that
abbrev pub RowsAreParts : Type 0
RowsAreParts =
    (content : SetupContent) (es : List Event) (rows : Rows) → AreAfter content es rows
    → ArePartsAfter content es nothing_archived rows rows × Hold [] nothing_archived

-- a text before its time is kept in the store
abbrev pub EarlyAddsToParts : Type 0
EarlyAddsToParts =
    (content : SetupContent) (es : List Event) (archived : Archived) (own whole : Rows) (sent : List ℕ)
    (partner number : ℕ) → ArePartsAfter content es archived own whole → IsFor content es sent partner number →
    text_in own partner number ≡ None → run (deliveries_of content es) partner + 1 < number
    → ArePartsAfter content (es ++ delivered sent ∷ []) archived
    (with_waiting partner number (interchange_of sent) own) (with_waiting partner number (interchange_of sent) whole)

-- it is taken by the whole's texts and at the whole machine too; what was taken is written to the store, and the parts are
-- those after the delivery; beside the store stands its own machine
pub record AddsToParts (content : SetupContent) (es : List Event) (archived : Archived) (own whole : Rows)
    (sent : List ℕ) (partner number : ℕ) (taken : List TakenContent) (there : MachineState) : Type 0 where
  pub machine : MachineState
  pub on_whole : AreTakenFrom partner (texts_with whole partner number (interchange_of sent)) number
      (machine_after content es) taken machine
  pub adds : AddsRun content es sent partner (length taken)
      (with_run partner number (interchange_of sent) taken whole) machine
  pub parts : ArePartsAfter content (es ++ delivered sent ∷ []) archived
      (with_run partner number (interchange_of sent) taken own)
      (with_run partner number (interchange_of sent) taken whole)
  pub beside : there ≡ own_machine archived.stays machine

-- the text that is next is taken, and each that becomes next by it, by the texts that the store keeps and at its own
-- machine
abbrev pub NextAddsToParts : Type 0
NextAddsToParts =
    (content : SetupContent) (es : List Event) (archived : Archived) (own whole : Rows) (sent : List ℕ)
    (partner number : ℕ) (taken : List TakenContent) (there : MachineState) → IsGiven content →
    ArePartsAfter content es archived own whole → IsFor content es sent partner number →
    text_in own partner number ≡ None → number ≡ run (deliveries_of content es) partner + 1
    → AreTakenFrom partner (texts_with own partner number (interchange_of sent)) number
    (own_machine archived.stays (machine_after content es)) taken there
    → AddsToParts content es archived own whole sent partner number taken there

-- an account more is the store's
abbrev pub AccountAddsToParts : Type 0
AccountAddsToParts =
    (content : SetupContent) (es : List Event) (archived : Archived) (own whole : Rows) (code kind : List ℕ)
    (named : PartnerKind) (id : ℕ) → ArePartsAfter content es archived own whole → kind_named kind ≡ Some named
    → account_answer (content_after content es).partners code kind ≡ added_as id
    → ArePartsAfter content (es ++ added code kind ∷ []) archived (with_partner id code named own)
    (with_partner id code named whole)

-- ---- closing

-- A closing is no event: what the store goes on with and what the archives hold then are parts of a whole that is after
-- the same events.
abbrev pub ClosingKeepsParts : Type 0
ClosingKeepsParts =
    (content : SetupContent) (es : List Event) (archived : Archived) (own whole : Rows) (last_closed : ℕ → ℕ)
    (stays : ℕ → Bool) → ArePartsAfter content es archived own whole →
    MayClose content es archived own last_closed stays
    → ArePartsAfter content es (archived_with archived own last_closed stays) (carried last_closed stays own)
    (whole_with (archived_with archived own last_closed stays) (carried last_closed stays own) whole)

-- an archive that was just added, by which no number is closed yet, changes nothing of what archives hold
abbrev pub AddedArchivesHold : Type 0
AddedArchivesHold =
    (content : SetupContent) (es : List Event) (archives : List Archive) (archived : Archived) (own whole copy : Rows)
    (lists : List (List ℕ) → Option (List ListingContent)) → ArePartsAfter content es archived own whole →
    Hold archives archived
    → Hold (archives ++ (record { rows = copy; last_closed = archived.last_closed; lists = lists }) ∷ []) archived

-- if the newest archive holds what goes from the store, the archives hold it once it is closed
abbrev pub ClosingsAreHeld : Type 0
ClosingsAreHeld =
    (content : SetupContent) (es : List Event) (archives : List Archive) (archived : Archived)
    (own whole copy : Rows) (lists : List (List ℕ) → Option (List ListingContent)) (last_closed : ℕ → ℕ)
    (stays : ℕ → Bool) → ArePartsAfter content es archived own whole → MayClose content es archived own last_closed stays →
    HoldsWhatGoes archived own copy last_closed stays →
    Hold (archives ++ (record { rows = copy; last_closed = archived.last_closed; lists = lists }) ∷ []) archived
    → Hold (archives ++ (record { rows = copy; last_closed = last_closed; lists = lists }) ∷ [])
    (archived_with archived own last_closed stays)

-- ---- what a store is checked for when it is opened

-- of a store's own rows none is closed
abbrev pub OwnAreBeyond : Type 0
OwnAreBeyond =
    (content : SetupContent) (es : List Event) (archived : Archived) (own whole : Rows) →
    ArePartsAfter content es archived own whole → rows_beyond archived.last_closed own ≡ own

-- what the interchanges of a store show, in order, is beyond what is closed what is looked for, whichever closed ones
-- still stand there
abbrev pub OwnNumbersAreKept : Type 0
OwnNumbersAreKept =
    (content : SetupContent) (es : List Event) (archived : Archived) (own whole rows : Rows) (db : Database) →
    ArePartsAfter content es archived own whole → rows_beyond archived.last_closed rows ≡ own → HasRows rows db
    → (numbers : List NumberKept) × ShowsNumbers db numbers
    × AreKeptBeyond archived.last_closed own.partners (numbers_beyond archived.last_closed numbers)

-- the numbers of the store's own visits rise, and after one from which each stays they go on one by one
abbrev pub OwnVisitsGoOn : Type 0
OwnVisitsGoOn =
    (content : SetupContent) (es : List Event) (archived : Archived) (own whole : Rows) (newest_closed : ℕ) →
    IsGiven content → ArePartsAfter content es archived own whole →
    ((number : ℕ) → newest_closed < number → archived.stays number ≡ true)
    → AreOwnVisits newest_closed own.visits

-- Whatever closed interchanges still stand in the store, its tables show what every store is checked for, where those
-- numbers are closed and each visit after the newest closing stays: the set-up with the accounts so far, and the
-- store's own terminal. The rows are of the whole, and none has the partner and the number of another.
abbrev pub OwnRowsAreOwnOffice : Type 0
OwnRowsAreOwnOffice =
    (content : SetupContent) (es : List Event) (archived : Archived) (own whole rows : Rows) (db : Database)
    (newest_closed : ℕ) → IsGiven content → ArePartsAfter content es archived own whole →
    rows_beyond archived.last_closed rows ≡ own → AreKeptOnce rows.interchanges →
    ((i : Interchange) → Contains rows.interchanges i → Contains whole.interchanges i) →
    ((number : ℕ) → newest_closed < number → archived.stays number ≡ true) → HasRows rows db
    → (shown : OpenedRows) × Shows db shown
    × IsOwnOffice (record { last_closed = archived.last_closed; newest_closed = newest_closed }) shown
    (content_after content es) (own_terminal archived.stays (machine_after content es).terminal)
