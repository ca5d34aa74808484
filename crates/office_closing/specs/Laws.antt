-- The laws of a closing: what its calls say of rows, in the words of a store and its archives.
use Rattle.std.specs.Prelude.{◌≡◌, ℕ, ◌<◌, ◌≤◌, false, true, List, None}
use Rattle.terminal_core.specs.State.{AreNumbered}
use Rattle.office_replies.specs.Events.{Event}
use Rattle.office_rows.specs.Rows.{Rows}
use Rattle.office_admission.specs.Setups.{SetupContent}
use Rattle.office_parts.specs.{Archives.HoldsWhatGoes, Closing.carried, LeftOver.{rows_beyond, rows_without}, OwnTerminal.MayStay}
use Rattle.office_parts.specs.Parts.{Archived, ArePartsAfter}
use Rattle.office_closing.specs.{declared.comparing.Numbers.Numbers, Changes.with_taken, Clearing.IsWithoutSome, Comparing.IsComparedAs, Visits.AreToGo}
use Rattle.office_closing.specs.{Copies.{AreAtMost, taken_of}, Deleting.{all_but, without_visits, is_among, goes}}
use Rattle.office_closing.specs.Register.{RegisterContent, is_newer_than, next_of}

-- these are the numbers by which the last ones that are closed rise
pub record Raises (before : ℕ → ℕ) (closing : List Numbers) (after : ℕ → ℕ) : Type 0 where
  pub each : (partner number : ℕ) → before partner < number → number ≤ after partner →
      is_among closing partner number ≡ true
  pub only : (partner number : ℕ) → is_among closing partner number ≡ true → number ≤ after partner

-- What was compared is held: the archive has what is to go, of interchanges and of visits, and those visits may go.
abbrev pub ComparedIsHeld : Type 0
ComparedIsHeld =
    (archived : Archived) (own copy : Rows) (closing : List Numbers) (last_closed : ℕ → ℕ) (visits : List ℕ) →
    Raises archived.last_closed closing last_closed → IsComparedAs closing own copy None →
    AreNumbered 0 own.visits → AreToGo own.visits copy.visits visits
    → HoldsWhatGoes archived own copy last_closed (all_but visits) × MayStay (all_but visits) own.visits

-- Once the last ones that are closed are raised, whatever of those interchanges is deleted, the store goes on with the same
-- rows.
abbrev pub ClearingLeavesTheRest : Type 0
ClearingLeavesTheRest =
    (before after : ℕ → ℕ) (closing : List Numbers) (rows left : Rows) → Raises before closing after →
    IsWithoutSome (goes closing) rows left → rows_beyond after left ≡ rows_beyond after rows

-- A store that is cleared of all that was compared has the rows that a closing carries on.
abbrev pub ClearedIsCarried : Type 0
ClearedIsCarried =
    (content : SetupContent) (es : List Event) (archived : Archived) (own whole : Rows) (closing : List Numbers)
    (last_closed : ℕ → ℕ) (visits : List ℕ) → ArePartsAfter content es archived own whole →
    Raises archived.last_closed closing last_closed
    → without_visits visits (rows_without (goes closing) own) ≡ carried last_closed (all_but visits) own

-- By what had been taken at a closing, with those next numbers, a register tells the day of a store with others: one that goes on
-- from there is of no day before, and one is that still awaits a number that had been taken.
pub record TellsTheDay (archive : ℕ) (nexts others : List ℕ) (register : RegisterContent) : Type 0 where
  pub goes_on : is_newer_than others register ≡ false → AreAtMost nexts others
      → is_newer_than others (with_taken (taken_of archive nexts) register) ≡ false
  pub awaits : (partner number : ℕ) → 0 < number → number < next_of nexts partner → next_of others partner ≤ number
      → is_newer_than others (with_taken (taken_of archive nexts) register) ≡ true

abbrev pub TakenTellsTheDay : Type 0
TakenTellsTheDay =
    (archive : ℕ) (nexts others : List ℕ) (register : RegisterContent) → TellsTheDay archive nexts others register
