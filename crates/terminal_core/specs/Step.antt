-- What an order does at a terminal: the refusals in their order, and otherwise the new state, the outcome and the
-- changes.
use Rattle.std.specs.Prelude.{ℕ, ◌+◌, Bool, List, [], ◌∷◌, ◌++◌, map, nat_le, Option, None, Some, Result, Ok, Err, if◌then◌else◌}
use Rattle.box6346.specs.{SizeCode.length_of, declared.box_number.BoxNumber.BoxNumber, declared.slot.Slot.Slot}
use Rattle.edi_syntax.specs.Moments.{CivilMoment}
use Rattle.edi_messages.specs.{Purposes.CallContent, Orders.{EntryContent, OrderContent, gate_in, gate_out, move, list_discharge, list_load, discharge, load}}
use Rattle.yard_core.specs.{YardMap.YardMap, declared.placements.Placement.Placement}
use Rattle.yard_core.specs.Decisions.{Refusal, present, absent, buried, no_slot, slot_kind, taken, on_air, on_empty, no_room, yard_with, yard_with_first_fit, yard_without, yard_with_move}
use Rattle.terminal_core.specs.{declared.visits.Departure.Departure, declared.lines.LineState.LineState, declared.change.Outcome.Outcome}
use Rattle.terminal_core.specs.{declared.lines.LineState.TheVariants.{Pending, Done as LineIsDone}, declared.change.Reason.Reason, declared.lines.Side.Side}
use Rattle.terminal_core.specs.{declared.change.Outcome.TheVariants.{Done, Gone, Listed, Refused}, declared.lines.Side.TheVariants.{Load, Discharge}}
use Rattle.terminal_core.specs.declared.change.Reason.TheVariants.{AlreadyIn, NotIn, AlreadyListed, NotListed, ListLineDone, Buried, NoSlot, SlotKind, Taken, OnAir, OnEmpty, NoRoom, VisitLimit}
use Rattle.terminal_core.specs.{declared.change.Source.Source, declared.change.Version.Version, declared.visits.Way.Way, Versions.{newest, spares_empty}}
use Rattle.terminal_core.specs.declared.visits.Way.TheVariants.{Gate, Ship}
use Rattle.terminal_core.specs.Rows.{VisitContent, ChangeContent, visit_opened, visit_closed, placed_at, moved_to, removed_from, listed_on, line_done}
use Rattle.terminal_core.specs.State.{TerminalState, LineContent, last_number, line_key, line_of, is_in, is_open_visit, open_visit}
use Rattle.std.specs.FinMap as finite_map

-- what a step leaves, answers and changes
pub record StepResult : Type 0 where
  pub state : TerminalState
  pub outcome : Outcome
  pub changes : List ChangeContent

abbrev pub step_with : TerminalState → Outcome → List ChangeContent → StepResult
step_with state outcome changes = record { state = state; outcome = outcome; changes = changes }

-- a refused order changes nothing
abbrev pub with_refusal : TerminalState → Reason → StepResult
with_refusal state reason = step_with state (Refused reason) []

-- the yard's refusals as reasons
abbrev pub reason_of : Refusal → Reason
reason_of present = AlreadyIn
reason_of absent = NotIn
reason_of (buried blocker) = Buried blocker
reason_of no_slot = NoSlot
reason_of slot_kind = SlotKind
reason_of taken = Taken
reason_of on_air = OnAir
reason_of on_empty = OnEmpty
reason_of no_room = NoRoom

-- ---- coming

abbrev pub with_slot : Slot → Result YardMap Refusal → Result (YardMap × Slot) Refusal
with_slot slot (Ok y) = Ok (y, slot)
with_slot slot (Err refusal) = Err refusal

abbrev pub yard_with_entry_in : Version → YardMap → EntryContent → Option Slot → Result (YardMap × Slot) Refusal
yard_with_entry_in version y entry (Some slot) =
    with_slot slot (yard_with (spares_empty version) y entry.number (length_of entry.size_type) entry.is_laden slot)
yard_with_entry_in version y entry None =
    yard_with_first_fit (spares_empty version) y entry.number (length_of entry.size_type) entry.is_laden

-- the yard with the container in the slot that it names, or in the first that fits if it names none
abbrev pub yard_with_entry : Version → YardMap → EntryContent → Result (YardMap × Slot) Refusal
yard_with_entry version y entry = yard_with_entry_in version y entry entry.slot

-- the newest visit has the last number that the set-up allows
abbrev pub is_full : TerminalState → Bool
is_full state = nat_le state.limit (last_number state.visits)

-- the visit of that number, opened
abbrev pub opened_visit : ℕ → Way → Source → EntryContent → Slot → VisitContent
opened_visit number way source entry slot = record {
  number = number;
  container = entry.number;
  size_type = entry.size_type;
  is_laden = entry.is_laden;
  booking = entry.booking;
  arrival = record { way = way; source = source; moment = entry.moment; slot = slot };
  departure = None;
  kilos = entry.kilos;
}

abbrev pub visit_of : TerminalState → Way → Source → EntryContent → Slot → VisitContent
visit_of state way source entry slot = opened_visit (last_number state.visits + 1) way source entry slot

-- the container stands, and its visit is opened
abbrev pub after_entry_at : TerminalState → Way → Source → EntryContent → Result (YardMap × Slot) Refusal → StepResult
after_entry_at state way source entry (Err refusal) = with_refusal state (reason_of refusal)
after_entry_at state way source entry (Ok (y, slot)) =
    step_with (record state { yard = y; visits = state.visits ++ visit_of state way source entry slot ∷ [] })
    (Done slot)
    (visit_opened (visit_of state way source entry slot) ∷ placed_at entry.number (last_number state.visits + 1) slot ∷ [])

abbrev pub after_entry : Version → TerminalState → Way → Source → EntryContent → StepResult
after_entry version state way source entry =
    if is_full state then with_refusal state VisitLimit
    else after_entry_at state way source entry (yard_with_entry version state.yard entry)

-- ---- going

abbrev pub closed_visit : Departure → BoxNumber → VisitContent → VisitContent
closed_visit departure container visit =
    if is_open_visit container visit then record visit { departure = Some departure } else visit

-- the container's open visit is closed
abbrev pub close_visit : TerminalState → BoxNumber → Departure → List VisitContent
close_visit state container departure = map (closed_visit departure container) state.visits

abbrev pub number_of_visit : Option VisitContent → ℕ
number_of_visit None = 0
number_of_visit (Some visit) = visit.number

abbrev pub after_departure_at : TerminalState → BoxNumber → Departure → Result (YardMap × Placement) Refusal → StepResult
after_departure_at state container departure (Err refusal) = with_refusal state (reason_of refusal)
after_departure_at state container departure (Ok (y, stood)) =
    step_with (record state { yard = y; visits = close_visit state container departure }) Gone
    (removed_from container ∷ visit_closed (number_of_visit (open_visit state container)) departure ∷ [])

abbrev pub departure_by : Way → Source → CivilMoment → Departure
departure_by way source moment = record { way = way; source = source; moment = moment }

abbrev pub after_departure : TerminalState → Way → Source → BoxNumber → CivilMoment → StepResult
after_departure state way source container moment =
    after_departure_at state container (departure_by way source moment) (yard_without state.yard container)

-- ---- moving

abbrev pub after_move_at : TerminalState → BoxNumber → Slot → Result YardMap Refusal → StepResult
after_move_at state container slot (Err refusal) = with_refusal state (reason_of refusal)
after_move_at state container slot (Ok y) = step_with (record state { yard = y }) (Done slot) (moved_to container slot ∷ [])

abbrev pub after_move : Version → TerminalState → BoxNumber → Slot → StepResult
after_move version state container slot =
    after_move_at state container slot (yard_with_move (spares_empty version) state.yard container slot)

-- ---- lists

abbrev pub with_line : TerminalState → CallContent → Side → BoxNumber → LineContent → TerminalState
with_line state call side container line =
    record state { lines = finite_map.insert state.lines (line_key call side container) line }

abbrev pub after_listing_at : TerminalState → CallContent → Side → BoxNumber → List ℕ → Option LineContent → StepResult
after_listing_at state call side container port (Some line) = with_refusal state AlreadyListed
after_listing_at state call side container port None =
    step_with (with_line state call side container (record { port = port; state = Pending })) Listed
    (listed_on call side container port ∷ [])

abbrev pub after_listing : TerminalState → CallContent → Side → BoxNumber → List ℕ → StepResult
after_listing state call side container port =
    after_listing_at state call side container port (line_of state call side container)

-- if the order is carried out, the line is done too
abbrev pub then_line_done_at : CallContent → Side → BoxNumber → LineContent → StepResult → Outcome → StepResult
then_line_done_at call side container line after (Refused reason) = after
then_line_done_at call side container line after outcome =
    step_with (with_line after.state call side container (record line { state = LineIsDone })) after.outcome
    (after.changes ++ line_done call side container ∷ [])

abbrev pub then_line_done : CallContent → Side → BoxNumber → LineContent → StepResult → StepResult
then_line_done call side container line after = then_line_done_at call side container line after after.outcome

abbrev pub by_state : TerminalState → CallContent → Side → BoxNumber → LineContent → StepResult → LineState → StepResult
by_state state call side container line after LineIsDone = with_refusal state ListLineDone
by_state state call side container line after Pending = then_line_done call side container line after

-- the order of a list's line: it has to stand, and to be open
abbrev pub by_line : TerminalState → CallContent → Side → BoxNumber → Option LineContent → StepResult → StepResult
by_line state call side container None after = with_refusal state NotListed
by_line state call side container (Some line) after = by_state state call side container line after line.state

-- ---- the table of orders

-- GateIn: AlreadyIn; VisitLimit; the slot
abbrev pub step_gate_in : Version → TerminalState → Source → EntryContent → StepResult
step_gate_in version state source entry =
    if is_in state entry.number then with_refusal state AlreadyIn else after_entry version state Gate source entry

-- GateOut: NotIn; Buried
abbrev pub step_gate_out : TerminalState → Source → BoxNumber → CivilMoment → StepResult
step_gate_out state source container moment = after_departure state Gate source container moment

-- Discharge: AlreadyIn; NotListed; ListLineDone; VisitLimit; the slot
abbrev pub step_discharge : Version → TerminalState → Source → CallContent → EntryContent → StepResult
step_discharge version state source call entry =
    if is_in state entry.number
    then with_refusal state AlreadyIn
    else by_line state call Discharge entry.number (line_of state call Discharge entry.number)
    (after_entry version state Ship source entry)

-- Load: NotIn; NotListed; ListLineDone; Buried
abbrev pub step_load : TerminalState → Source → CallContent → BoxNumber → CivilMoment → StepResult
step_load state source call container moment =
    if is_in state container
    then by_line state call Load container (line_of state call Load container)
    (after_departure state Ship source container moment)
    else with_refusal state NotIn

-- what an order does by the rules of a version
abbrev pub step_by : Version → TerminalState → Source → OrderContent → StepResult
step_by version state source (gate_in entry) = step_gate_in version state source entry
step_by version state source (gate_out container moment) = step_gate_out state source container moment
step_by version state source (move container slot) = after_move version state container slot
step_by version state source (list_discharge call container) = after_listing state call Discharge container []
step_by version state source (list_load call container port) = after_listing state call Load container port
step_by version state source (discharge call entry) = step_discharge version state source call entry
step_by version state source (load call container moment) = step_load state source call container moment

-- what an order does
abbrev pub step : TerminalState → Source → OrderContent → StepResult
step = step_by newest
