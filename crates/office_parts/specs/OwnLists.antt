-- The terminal of a store of which lists were put away: what it has of its own lists.
use Rattle.std.specs.Prelude.{ℕ, Bool, not, List, [], ◌∷◌, filter}
use Rattle.edi_messages.specs.Purposes.{CallContent}
use Rattle.terminal_core.specs.{declared.lines.Side.Side, State.{TerminalState, LineKey, Lines, side_code}, Step.{StepResult, step_with}}
use Rattle.office_rows.specs.Rows.{ListingContent, Rows}
use Rattle.office_admission.specs.Taking.{MachineState}
use Rattle.std.specs.FinMap as finite_map

-- a list goes by its vessel, its voyage and its side
abbrev pub ListName : Type 0
ListName = List (List ℕ)

abbrev pub list_name : CallContent → Side → ListName
list_name call side = call.vessel ∷ call.voyage ∷ (side_code side ∷ []) ∷ []

-- the list of the line with this key
abbrev pub list_of : LineKey → ListName
list_of (vessel ∷ voyage ∷ side ∷ container ∷ []) = vessel ∷ voyage ∷ side ∷ []
list_of other = other

-- ---- the terminal

-- the lines of the lists that were not put away
abbrev pub own_lines : (away : ListName → Bool) → Lines → Lines
own_lines away lines = finite_map.retain_keys lines (λ (key : LineKey). not (away (list_of key)))

-- the terminal with these lines, and all else of it
abbrev pub without_lists : (away : ListName → Bool) → TerminalState → TerminalState
without_lists away state = record state { lines = own_lines away state.lines }

-- what an order does, left with these lines
abbrev pub step_without : (away : ListName → Bool) → StepResult → StepResult
step_without away step = step_with (without_lists away step.state) step.outcome step.changes

-- the machine over that terminal
abbrev pub machine_without : (away : ListName → Bool) → MachineState → MachineState
machine_without away machine = record machine { terminal = without_lists away machine.terminal }

-- ---- the rows

abbrev pub is_own_line : (away : ListName → Bool) → ListingContent → Bool
is_own_line away line = not (away (list_name line.call line.side))

-- the rows without the lines of the lists that were put away
abbrev pub rows_without_lists : (away : ListName → Bool) → Rows → Rows
rows_without_lists away rows = record rows { lines = filter (is_own_line away) rows.lines }
