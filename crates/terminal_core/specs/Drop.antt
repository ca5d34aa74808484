-- Dropping the open lines of a call's list.
use Rattle.std.specs.Prelude.{◌≡◌, ℕ, Bool, true, false, ◌&&◌, ◌++◌, List, [], ◌∷◌, map, length, filter, Option, None, Some, if◌then◌else◌, IsTrue, string_bytes}
use Rattle.std.specs.{Option.option_map_or, List.list_any, Str.bytes_eq, Ordering.nat_cmp, Cmp.Lexicographic.slice_cmp}
use Rattle.box6346.specs.declared.box_number.BoxNumber.{BoxNumber}
use Rattle.edi_messages.specs.Purposes.{CallContent}
use Rattle.terminal_core.specs.{declared.lines.LineState.LineState, declared.lines.LineState.TheVariants.{Pending, Done}, declared.lines.Listing.Listing}
use Rattle.terminal_core.specs.{declared.lines.Side.Side, Listings.is_side, Rows.{ChangeContent, unlisted}, Forms.IsWellFormed}
use Rattle.terminal_core.specs.State.{TerminalState, LineContent, LineKey, Lines, line_key, side_code, IsWhole}
use Rattle.terminal_core.specs.Changes.{rows_of, rows_with_all, AreApplicable}
use Rattle.std.specs.FinMap as finite_map

abbrev pub is_pending : LineState → Bool
is_pending Pending = true
is_pending Done = false

-- the key is that of a line of the call's list
abbrev pub is_on : CallContent → Side → LineKey → Bool
is_on call side (vessel ∷ voyage ∷ part ∷ container ∷ []) =
    bytes_eq vessel call.vessel && (bytes_eq voyage call.voyage && bytes_eq part (side_code side ∷ []))
is_on call side other = false

-- the container of a line's key
abbrev pub container_in : LineKey → BoxNumber
container_in (vessel ∷ voyage ∷ part ∷ container ∷ []) = container
container_in other = []

-- a line of the call's list that is not done
abbrev pub is_open_on : CallContent → Side → LineKey × LineContent → Bool
is_open_on call side entry = is_on call side entry.0 && is_pending entry.1.state

-- the containers of the list's open lines. A map's entries stand by their keys, so these stand by their numbers.
abbrev pub open_containers : Lines → CallContent → Side → List BoxNumber
open_containers lines call side =
    map (λ (entry : LineKey × LineContent). container_in entry.0)
    (filter (is_open_on call side) (finite_map.entries lines))

-- the lines without those of these containers
abbrev pub without_lines_of : CallContent → Side → List BoxNumber → Lines → Lines
without_lines_of call side [] lines = lines
without_lines_of call side (container ∷ containers) lines =
    without_lines_of call side containers (finite_map.remove lines (line_key call side container))

-- what a drop leaves, how many lines are gone, and the changes
pub record ListDrop : Type 0 where
  pub state : TerminalState
  pub count : ℕ
  pub changes : List ChangeContent

abbrev pub dropped_lines : Lines → CallContent → Side → Lines
dropped_lines lines call side = without_lines_of call side (open_containers lines call side) lines

-- the open lines of the call's list are gone, and there is a change for each, by their containers' numbers
abbrev pub list_drop : TerminalState → CallContent → Side → ListDrop
list_drop state call side = record {
  state = record state { lines = dropped_lines state.lines call side };
  count = length (open_containers state.lines call side);
  changes = map (unlisted call side) (open_containers state.lines call side);
}

-- state, count and the changes that were added are those of a drop
pub record Drops (dropped : ListDrop) (now : TerminalState) (count : ℕ) (old new : List ChangeContent) : Type 0 where
  pub state : now ≡ dropped.state
  pub count_is : count ≡ dropped.count
  pub changes : new ≡ old ++ dropped.changes

-- ---- laws

-- nothing, if the line is open and on the list
abbrev pub unless_open_on : CallContent → Side → LineKey → Option LineContent → Option LineContent
unless_open_on call side key None = None
unless_open_on call side key (Some line) = if is_open_on call side (key, line) then None else Some line

-- exactly the open lines of the list are gone
abbrev pub DropsOpenAlone : Type 0
DropsOpenAlone = (state : TerminalState) (call : CallContent) (side : Side) (key : LineKey) →
    finite_map.get (list_drop state call side).state.lines key ≡ unless_open_on call side key (finite_map.get state.lines key)

-- the changes turn the rows of the old state into those of the new
abbrev pub DropTurnsRows : Type 0
DropTurnsRows = (state : TerminalState) (call : CallContent) (side : Side) →
    rows_with_all (rows_of state) (list_drop state call side).changes ≡ rows_of (list_drop state call side).state

-- each removes a row that is there
abbrev pub DropIsApplicable : Type 0
DropIsApplicable = (state : TerminalState) (call : CallContent) (side : Side) →
    AreApplicable (rows_of state) (list_drop state call side).changes

-- what is left of a whole state is whole, and of a well-formed one well formed
abbrev pub DropKeepsWhole : Type 0
DropKeepsWhole = (state : TerminalState) (call : CallContent) (side : Side) → IsWhole state →
    IsWhole (list_drop state call side).state

abbrev pub DropKeepsForms : Type 0
DropKeepsForms = (state : TerminalState) (call : CallContent) (side : Side) → IsWellFormed state →
    IsWellFormed (list_drop state call side).state

-- ---- what the code goes by, and no caller has to read

-- each number is below those after it
abbrev pub Rise : List BoxNumber → Type 0
Rise containers = IsTrue (finite_map.is_sorted (slice_cmp nat_cmp) (map (λ (b : BoxNumber). (b, true)) containers))

-- the line of the container is open
abbrev pub is_open_for : Lines → CallContent → Side → BoxNumber → Bool
is_open_for lines call side container =
    option_map_or (λ (l : LineContent). is_pending l.state) (finite_map.get lines (line_key call side container)) false

-- these are the list's open containers, each once, by their numbers
pub record AreOpenContainers (lines : Lines) (call : CallContent) (side : Side) (containers : List BoxNumber) : Type 0 where
  pub rise : Rise containers
  pub each : (container : BoxNumber) → list_any (bytes_eq container) containers ≡ is_open_for lines call side container

-- the row is an open line of the call's list
abbrev pub is_open_row : CallContent → Side → Listing → Bool
is_open_row call side row =
    is_side row.side side && (bytes_eq (string_bytes row.call.voyage) call.voyage
    && (bytes_eq (string_bytes row.call.vessel) call.vessel && is_pending row.state))

-- the containers of such rows, as these stand
abbrev pub open_rows_of : CallContent → Side → List Listing → List BoxNumber
open_rows_of call side rows = map (λ (row : Listing). row.container) (filter (is_open_row call side) rows)
