-- A store of which lists were put away, beside its archives: a delivery that is next, and what the store's tables show.
use Rattle.std.specs.Prelude.{◌≡◌, ℕ, ◌+◌, ◌<◌, Bool, true, List, [], ◌∷◌, ◌++◌, length, Contains, None}
use Rattle.sqlite.specs.Effect.{Database}
use Rattle.edi_syntax.specs.Interchange.{interchange_of}
use Rattle.partner_core.specs.Deliveries.{run}
use Rattle.office_admission.specs.{Accounts.content_after, Deliveries.deliveries_of, Given.IsGiven, Setups.SetupContent, Taking.MachineState}
use Rattle.office_replies.specs.Events.{Event, delivered}
use Rattle.office_rows.specs.{Opened.{OpenedRows, Shows}, Rows.{Interchange, Rows}, Stored.HasRows}
use Rattle.office_loading.specs.OwnOffice.{IsOwnOffice}
use Rattle.office_history.specs.{After.{machine_after, AreKeptOnce}, Cascade.{text_in, TakenContent, texts_with, with_run, AreTakenFrom}, Laws.{IsFor, AddsRun}}
use Rattle.office_parts.specs.{LeftOver.rows_beyond, OwnTerminal.{own_terminal, own_machine}, Parts.{Archived, ArePartsAfter}, ListLaws.NameOwnLists}
use Rattle.office_parts.specs.OwnLists.{ListName, without_lists, machine_without, rows_without_lists}

-- It is taken with the lists that were put away as without them. What was taken is written to the rows without them;
-- with them these are parts of the whole after the delivery, and beside them stands the store's own machine without them.
pub record AddsWithoutLists (content : SetupContent) (es : List Event) (archived : Archived) (own whole : Rows)
    (away : ListName → Bool) (sent : List ℕ) (partner number : ℕ) (taken : List TakenContent) (there : MachineState)
    : Type 0 where
  pub machine : MachineState
  pub on_whole : AreTakenFrom partner (texts_with whole partner number (interchange_of sent)) number
      (machine_after content es) taken machine
  pub adds : AddsRun content es sent partner (length taken)
      (with_run partner number (interchange_of sent) taken whole) machine
  pub parts : ArePartsAfter content (es ++ delivered sent ∷ []) archived
      (with_run partner number (interchange_of sent) taken own)
      (with_run partner number (interchange_of sent) taken whole)
  pub written : with_run partner number (interchange_of sent) taken (rows_without_lists away own)
      ≡ rows_without_lists away (with_run partner number (interchange_of sent) taken own)
  pub beside : there ≡ machine_without away (own_machine archived.stays machine)

-- A text that is next, and each that becomes next by it, if they name none of the lists that were put away.
abbrev pub NextAddsWithoutLists : Type 0
NextAddsWithoutLists =
    (content : SetupContent) (es : List Event) (archived : Archived) (own whole : Rows) (away : ListName → Bool)
    (sent : List ℕ) (partner number : ℕ) (taken : List TakenContent) (there : MachineState) → IsGiven content →
    ArePartsAfter content es archived own whole → IsFor content es sent partner number →
    text_in own partner number ≡ None → number ≡ run (deliveries_of content es) partner + 1 →
    NameOwnLists away (machine_after content es) partner (texts_with own partner number (interchange_of sent)) number
    → AreTakenFrom partner (texts_with own partner number (interchange_of sent)) number
    (machine_without away (own_machine archived.stays (machine_after content es))) taken there
    → AddsWithoutLists content es archived own whole away sent partner number taken there

-- Whatever closed interchanges still stand in the store, its tables show what every store is checked for, where those
-- numbers are closed and each visit after the newest closing stays: the set-up with the accounts so far, and the store's
-- own terminal without the lists that were put away. The interchanges are of the whole, and none has the partner and the
-- number of another.
abbrev pub OwnRowsWithoutListsAreOwnOffice : Type 0
OwnRowsWithoutListsAreOwnOffice =
    (content : SetupContent) (es : List Event) (archived : Archived) (own whole rows : Rows) (away : ListName → Bool)
    (db : Database) (newest_closed : ℕ) → IsGiven content → ArePartsAfter content es archived own whole →
    rows_beyond archived.last_closed rows ≡ rows_without_lists away own → AreKeptOnce rows.interchanges →
    ((i : Interchange) → Contains rows.interchanges i → Contains whole.interchanges i) →
    ((number : ℕ) → newest_closed < number → archived.stays number ≡ true) → HasRows rows db
    → (shown : OpenedRows) × Shows db shown
    × IsOwnOffice (record { last_closed = archived.last_closed; newest_closed = newest_closed }) shown
    (content_after content es)
    (without_lists away (own_terminal archived.stays (machine_after content es).terminal))
