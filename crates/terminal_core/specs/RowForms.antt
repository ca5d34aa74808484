-- The rows of a state as lists, and by their keys.
use Rattle.std.specs.{Prelude.{◌≡◌, ℕ, ◌≤◌, List, map, find, Option, count_by}, Option.option_map, Str.bytes_eq}
use Rattle.box6346.specs.declared.box_number.BoxNumber.{BoxNumber}
use Rattle.yard_core.specs.declared.plan.Block.{Block}
use Rattle.terminal_core.specs.{declared.lines.Listing.Listing, declared.change.Place.Place, declared.visits.Visit.Visit, Rows.visit_content, Listings.lines_of}
use Rattle.terminal_core.specs.{State.{TerminalState, IsWhole}, Restoring.{AreOnce, AreRowsOf}, Changes.{Standing, standing_in, TerminalRows, rows_of}}

-- where a container stands by places: of two the first counts
abbrev pub standing_by : List Place → BoxNumber → Option Standing
standing_by places container =
    option_map (λ place. standing_in place.visit place.slot) (find (λ place. bytes_eq place.container container) places)

-- rows that are lists, by their keys
abbrev pub rows_by_key : List Visit → List Place → List Listing → TerminalRows
rows_by_key visits places lines =
    record { visits = map visit_content visits; places = standing_by places; lines = lines_of lines }

-- no container has two places
abbrev pub ArePlacedOnce : List Place → Type 0
ArePlacedOnce places = (container : BoxNumber) → count_by (λ place. bytes_eq place.container container) places ≤ 1

-- the lists that are a state's rows are by key the rows of that state
abbrev pub ListsAreRowsByKey : Type 0
ListsAreRowsByKey =
    (plan : List Block) (limit : ℕ) (visits : List Visit) (places : List Place) (lines : List Listing)
    (state : TerminalState) → AreRowsOf plan limit visits places lines state
    → rows_by_key visits places lines ≡ rows_of state

-- lists with no key twice that are by key the rows of a whole state are its rows
abbrev pub RowsByKeyAreLists : Type 0
RowsByKeyAreLists =
    (visits : List Visit) (places : List Place) (lines : List Listing) (state : TerminalState) → IsWhole state →
    ArePlacedOnce places → AreOnce lines → rows_by_key visits places lines ≡ rows_of state
    → AreRowsOf state.yard.plan state.limit visits places lines state

-- two whole states of one plan and limit that have the same rows are one
abbrev pub RowsGiveState : Type 0
RowsGiveState = (one other : TerminalState) → IsWhole one → IsWhole other → one.yard.plan ≡ other.yard.plan →
    one.limit ≡ other.limit → rows_of one ≡ rows_of other → one ≡ other

-- lists are the rows of one state at most
abbrev pub ListsGiveState : Type 0
ListsGiveState =
    (plan : List Block) (limit : ℕ) (visits : List Visit) (places : List Place) (lines : List Listing)
    (one other : TerminalState) → AreRowsOf plan limit visits places lines one
    → AreRowsOf plan limit visits places lines other → one ≡ other
