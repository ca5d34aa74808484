-- The rows of a terminal's three lists, and what a change does to them.
use Rattle.std.specs.Prelude.{◌≡◌, ◌≢◌, ℕ, ◌+◌, Bool, true, ◌==◌, List, [], ◌∷◌, ◌++◌, map, filter, Option, None, Some, is_some, ◌↔◌, if◌then◌else◌}
use Rattle.std.specs.{Option.option_map, Str.bytes_eq, Map.update}
use Rattle.box6346.specs.{declared.box_number.BoxNumber.BoxNumber, declared.slot.Slot.Slot}
use Rattle.edi_messages.specs.Orders.{OrderContent}
use Rattle.yard_core.specs.YardMap.{placement_of}
use Rattle.terminal_core.specs.{declared.visits.Departure.Departure, declared.lines.LineState.TheVariants.{Pending, Done as LineIsDone}}
use Rattle.terminal_core.specs.{declared.change.Source.Source, declared.change.Version.Version, Step.{number_of_visit, step_by}}
use Rattle.terminal_core.specs.Rows.{VisitContent, ChangeContent, visit_opened, visit_closed, placed_at, moved_to, removed_from, listed_on, line_done, unlisted}
use Rattle.terminal_core.specs.State.{TerminalState, LineContent, LineKey, Lines, last_number, line_key, open_visit, IsWhole}
use Rattle.std.specs.FinMap as finite_map

-- ---- rows

-- where a container stands, and the number of its visit
pub record Standing : Type 0 where
  pub visit : ℕ
  pub slot : Slot

abbrev pub standing_in : ℕ → Slot → Standing
standing_in visit slot = record { visit = visit; slot = slot }

-- a row for each visit, for each container in the yard, and for each line of a vessel's list
pub record TerminalRows : Type 0 where
  pub visits : List VisitContent
  pub places : BoxNumber → Option Standing
  pub lines : Lines

abbrev pub standing_of : TerminalState → BoxNumber → Option Standing
standing_of state container =
    option_map (λ s. standing_in (number_of_visit (open_visit state container)) s.slot)
    (placement_of state.yard.boxes container)

abbrev pub rows_of : TerminalState → TerminalRows
rows_of state = record { visits = state.visits; places = standing_of state; lines = state.lines }

-- ---- changes

-- the visit of that number gets the departure, and no other
abbrev pub visit_with_departure : ℕ → Departure → VisitContent → VisitContent
visit_with_departure number departure visit = if visit.number == number then record visit { departure = Some departure } else visit

abbrev pub standing_elsewhere : Slot → Standing → Standing
standing_elsewhere slot place = record place { slot = slot }

abbrev pub with_line_done : Lines → LineKey → Option LineContent → Lines
with_line_done lines key None = lines
with_line_done lines key (Some line) = finite_map.insert lines key (record line { state = LineIsDone })

-- the rows after a change
abbrev pub rows_with : TerminalRows → ChangeContent → TerminalRows
rows_with rows (visit_opened visit) = record rows { visits = rows.visits ++ visit ∷ [] }
rows_with rows (visit_closed number departure) = record rows { visits = map (visit_with_departure number departure) rows.visits }
rows_with rows (placed_at container visit slot) =
    record rows { places = update bytes_eq rows.places container (Some (standing_in visit slot)) }
rows_with rows (moved_to container slot) =
    record rows {
      places = update bytes_eq rows.places container
          (option_map (standing_elsewhere slot) (rows.places container));
    }
rows_with rows (removed_from container) = record rows { places = update bytes_eq rows.places container None }
rows_with rows (listed_on call side container port) =
    record rows {
      lines = finite_map.insert rows.lines (line_key call side container)
          (record { port = port; state = Pending });
    }
rows_with rows (line_done call side container) =
    record rows {
      lines = with_line_done rows.lines (line_key call side container)
          (finite_map.get rows.lines (line_key call side container));
    }
rows_with rows (unlisted call side container) =
    record rows { lines = finite_map.remove rows.lines (line_key call side container) }

-- the rows after changes, one after another
abbrev pub rows_with_all : TerminalRows → List ChangeContent → TerminalRows
rows_with_all rows [] = rows
rows_with_all rows (change ∷ changes) = rows_with_all (rows_with rows change) changes

-- ---- what a change finds

abbrev pub is_numbered : ℕ → VisitContent → Bool
is_numbered number visit = visit.number == number

-- the visit is open, its number is the next, and none has it yet
pub record IsNextVisit (visit : VisitContent) (visits : List VisitContent) : Type 0 where
  pub next : visit.number ≡ last_number visits + 1
  pub absent : filter (is_numbered visit.number) visits ≡ []
  pub stays : visit.departure ≡ None

-- one visit has the number, and it is open
pub record IsOneOpenVisit (number : ℕ) (visits : List VisitContent) : Type 0 where
  pub visit : VisitContent
  pub only : filter (is_numbered number) visits ≡ visit ∷ []
  pub stays : visit.departure ≡ None

-- the container stands nowhere yet, and no other has the slot or the visit
pub record IsNewPlace (container : BoxNumber) (visit : ℕ) (slot : Slot)
    (places : BoxNumber → Option Standing) : Type 0 where
  pub absent : places container ≡ None
  pub slot_free : (other : BoxNumber) (standing : Standing) → places other ≡ Some standing → standing.slot ≢ slot
  pub visit_free : (other : BoxNumber) (standing : Standing) → places other ≡ Some standing → standing.visit ≢ visit

-- the container stands somewhere, and no other has the slot
pub record IsNewSlot (container : BoxNumber) (slot : Slot) (places : BoxNumber → Option Standing) : Type 0 where
  pub there : is_some (places container) ≡ true
  pub slot_free : (other : BoxNumber) (standing : Standing) → other ≢ container → places other ≡ Some standing →
      standing.slot ≢ slot

-- the line is there, and not done
pub record IsPendingLine (key : LineKey) (lines : Lines) : Type 0 where
  pub line : LineContent
  pub there : finite_map.get lines key ≡ Some line
  pub pending : line.state ≡ Pending

-- the row that a change adds is absent, the one that it alters or removes is there, and what no two rows may share no
-- other has
abbrev pub IsApplicable : TerminalRows → ChangeContent → Type 0
IsApplicable rows (visit_opened visit) = IsNextVisit visit rows.visits
IsApplicable rows (visit_closed number departure) = IsOneOpenVisit number rows.visits
IsApplicable rows (placed_at container visit slot) = IsNewPlace container visit slot rows.places
IsApplicable rows (moved_to container slot) = IsNewSlot container slot rows.places
IsApplicable rows (removed_from container) = is_some (rows.places container) ≡ true
IsApplicable rows (listed_on call side container port) = finite_map.get rows.lines (line_key call side container) ≡ None
IsApplicable rows (line_done call side container) = IsPendingLine (line_key call side container) rows.lines
IsApplicable rows (unlisted call side container) = IsPendingLine (line_key call side container) rows.lines

-- each is applicable at its turn
abbrev pub AreApplicable : TerminalRows → List ChangeContent → Type 0
AreApplicable rows [] = Unit {0}
AreApplicable rows (change ∷ changes) = IsApplicable rows change × AreApplicable (rows_with rows change) changes

-- ---- the laws

-- changes that are appended come after those before
abbrev pub ChangesAreAppended : Type 0
ChangesAreAppended =
    (rows : TerminalRows) (before after : List ChangeContent) →
    rows_with_all rows (before ++ after) ≡ rows_with_all (rows_with_all rows before) after

-- they are applicable exactly if those before are, and they are to what those leave
abbrev pub AreApplicableAppended : Type 0
AreApplicableAppended =
    (rows : TerminalRows) (before after : List ChangeContent) →
    AreApplicable rows (before ++ after) ↔
    (AreApplicable rows before × AreApplicable (rows_with_all rows before) after)

-- the changes of a step turn the rows of the old state into those of the new
abbrev pub ChangesTurnRows : Type 0
ChangesTurnRows =
    (version : Version) (state : TerminalState) (source : Source) (order : OrderContent) → IsWhole state
    → rows_with_all (rows_of state) (step_by version state source order).changes
    ≡ rows_of (step_by version state source order).state

-- each change of a step adds, alters or removes one row
abbrev pub ChangesAreApplicable : Type 0
ChangesAreApplicable =
    (version : Version) (state : TerminalState) (source : Source) (order : OrderContent) → IsWhole state →
    AreApplicable (rows_of state) (step_by version state source order).changes
