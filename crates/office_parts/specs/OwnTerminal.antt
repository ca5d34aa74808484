-- The terminal of a store of which visits were put away: what it has of its own, beside what archives hold.
use Rattle.std.specs.{Prelude.{◌≡◌, ℕ, ◌<◌, Bool, true, false, List, filter, is_some}, List.AllByRecursion}
use Rattle.terminal_core.specs.Rows.{VisitContent, ChangeContent, visit_opened, visit_closed, placed_at, moved_to, removed_from, listed_on, line_done, unlisted}
use Rattle.terminal_core.specs.{State.{TerminalState, last_number}, Step.{StepResult, step_with}}
use Rattle.office_admission.specs.Taking.{MachineState}

-- the number of the visit stays in the store
abbrev pub is_own : (stays : ℕ → Bool) → VisitContent → Bool
is_own stays visit = stays visit.number

-- the visits whose numbers stay
abbrev pub own_visits : (stays : ℕ → Bool) → List VisitContent → List VisitContent
own_visits stays visits = filter (is_own stays) visits

-- the terminal with these visits, and all else of it
abbrev pub own_terminal : (stays : ℕ → Bool) → TerminalState → TerminalState
own_terminal stays state = record state { visits = own_visits stays state.visits }

-- what an order does, left with these visits
abbrev pub own_step : (stays : ℕ → Bool) → StepResult → StepResult
own_step stays step = step_with (own_terminal stays step.state) step.outcome step.changes

-- the machine over that terminal
abbrev pub own_machine : (stays : ℕ → Bool) → MachineState → MachineState
own_machine stays machine = record machine { terminal = own_terminal stays machine.terminal }

-- a visit whose number does not stay is over: its container left
abbrev pub IsOverOrStays : (stays : ℕ → Bool) → VisitContent → Type 0
IsOverOrStays stays visit = stays visit.number ≡ false → is_some visit.departure ≡ true

-- What may be put away of these visits: those that are over, but not the newest, and none that is still to come. So the
-- newest number in the store is that of all visits that ever were.
pub record MayStay (stays : ℕ → Bool) (visits : List VisitContent) : Type 0 where
  pub over : AllByRecursion (IsOverOrStays stays) visits
  pub later : (number : ℕ) → last_number visits < number → stays number ≡ true
  pub newest : last_number (own_visits stays visits) ≡ last_number visits

-- the change opens or closes no visit but one that stays
abbrev pub IsOfOwn : (stays : ℕ → Bool) → ChangeContent → Type 0
IsOfOwn stays (visit_opened visit) = stays visit.number ≡ true
IsOfOwn stays (visit_closed number departure) = stays number ≡ true
IsOfOwn stays (placed_at container visit slot) = Unit {0}
IsOfOwn stays (moved_to container slot) = Unit {0}
IsOfOwn stays (removed_from container) = Unit {0}
IsOfOwn stays (listed_on call side container port) = Unit {0}
IsOfOwn stays (line_done call side container) = Unit {0}
IsOfOwn stays (unlisted call side container) = Unit {0}
