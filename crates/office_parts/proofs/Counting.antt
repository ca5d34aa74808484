-- What an order does if that many visits were: the orders of Step, with a number in the place of the newest visit's.
use Rattle.std.specs.Prelude.{ℕ, ◌+◌, [], ◌∷◌, ◌++◌, nat_le, Result, Ok, Err, if◌then◌else◌}
use Rattle.box6346.specs.declared.slot.Slot.{Slot}
use Rattle.edi_messages.specs.{Purposes.CallContent, Orders.{EntryContent, OrderContent, gate_in, gate_out, move, list_discharge, list_load, discharge, load}}
use Rattle.yard_core.specs.{YardMap.YardMap, Decisions.Refusal}
use Rattle.terminal_core.specs.{declared.change.Outcome.TheVariants.Done, declared.change.Reason.TheVariants.{AlreadyIn, VisitLimit}, declared.visits.Way.Way}
use Rattle.terminal_core.specs.{declared.lines.Side.TheVariants.{Load, Discharge}, declared.change.Source.Source, declared.change.Version.Version}
use Rattle.terminal_core.specs.{declared.visits.Way.TheVariants.{Gate, Ship}, Rows.{visit_opened, placed_at}, State.{TerminalState, line_of, is_in}}
use Rattle.terminal_core.specs.Step.{StepResult, step_with, with_refusal, reason_of, yard_with_entry, opened_visit, step_gate_out, step_load, after_move, after_listing, by_line}

abbrev pub entered_counting : ℕ → TerminalState → Way → Source → EntryContent → Result (YardMap × Slot) Refusal → StepResult
entered_counting count state way source entry (Err refusal) = with_refusal state (reason_of refusal)
entered_counting count state way source entry (Ok (y, slot)) =
    step_with (record state { yard = y; visits = state.visits ++ opened_visit (count + 1) way source entry slot ∷ [] })
    (Done slot)
    (visit_opened (opened_visit (count + 1) way source entry slot) ∷ placed_at entry.number (count + 1) slot ∷ [])

abbrev pub entry_counting : ℕ → Version → TerminalState → Way → Source → EntryContent → StepResult
entry_counting count version state way source entry =
    if nat_le state.limit count then with_refusal state VisitLimit
    else entered_counting count state way source entry (yard_with_entry version state.yard entry)

abbrev pub gate_in_counting : ℕ → Version → TerminalState → Source → EntryContent → StepResult
gate_in_counting count version state source entry =
    if is_in state entry.number then with_refusal state AlreadyIn else entry_counting count version state Gate source entry

abbrev pub discharge_counting : ℕ → Version → TerminalState → Source → CallContent → EntryContent → StepResult
discharge_counting count version state source call entry =
    if is_in state entry.number
    then with_refusal state AlreadyIn
    else by_line state call Discharge entry.number (line_of state call Discharge entry.number)
    (entry_counting count version state Ship source entry)

-- what an order does, that many visits having been
abbrev pub step_counting : ℕ → Version → TerminalState → Source → OrderContent → StepResult
step_counting count version state source (gate_in entry) = gate_in_counting count version state source entry
step_counting count version state source (gate_out container moment) = step_gate_out state source container moment
step_counting count version state source (move container slot) = after_move version state container slot
step_counting count version state source (list_discharge call container) = after_listing state call Discharge container []
step_counting count version state source (list_load call container port) = after_listing state call Load container port
step_counting count version state source (discharge call entry) = discharge_counting count version state source call entry
step_counting count version state source (load call container moment) = step_load state source call container moment
