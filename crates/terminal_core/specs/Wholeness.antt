-- A terminal is whole from the first on, and stays whole.
use Rattle.std.specs.Prelude.{◌≡◌, ℕ}
use Rattle.edi_messages.specs.Orders.{OrderContent}
use Rattle.yard_core.specs.{Plan.IsPlan, YardMap.YardMap}
use Rattle.terminal_core.specs.{declared.change.Source.Source, declared.change.Version.Version, State.{TerminalState, empty_state, IsWhole}, Step.step_by}
use Rattle.std.specs.FinMap as finite_map

-- a terminal with nothing in it is whole
abbrev pub EmptyIsWhole : Type 0
EmptyIsWhole = (yard : YardMap) (limit : ℕ) → IsPlan yard.plan → yard.boxes ≡ finite_map.empty →
    IsWhole (empty_state yard limit)

-- what an order leaves of a whole state is whole, by the rules of any version
abbrev pub StepsKeepWhole : Type 0
StepsKeepWhole = (version : Version) (state : TerminalState) (source : Source) (order : OrderContent) → IsWhole state →
    IsWhole (step_by version state source order).state
