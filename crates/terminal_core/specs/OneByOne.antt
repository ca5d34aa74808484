-- The numbers of visits go on one by one from 1 as long as none is left out.
use Rattle.std.specs.Prelude.{◌≡◌, ℕ, ◌+◌, List, [], ◌∷◌}
use Rattle.edi_messages.specs.Orders.{OrderContent}
use Rattle.terminal_core.specs.{declared.change.Source.Source, declared.change.Version.Version, Changes.{TerminalRows, rows_with_all, AreApplicable}}
use Rattle.terminal_core.specs.{Rows.{VisitContent, ChangeContent}, State.{TerminalState, IsWhole}, Step.step_by}

-- visits are numbered from that number on, one by one as they stand
abbrev pub GoOneByOne : ℕ → List VisitContent → Type 0
GoOneByOne next [] = Unit {0}
GoOneByOne next (visit ∷ visits) = (visit.number ≡ next) × GoOneByOne (next + 1) visits

-- changes that are applicable leave them so
abbrev pub ChangesGoOneByOne : Type 0
ChangesGoOneByOne = (rows : TerminalRows) (changes : List ChangeContent) → AreApplicable rows changes →
    GoOneByOne 1 rows.visits → GoOneByOne 1 (rows_with_all rows changes).visits

-- an order leaves them so, by the rules of any version
abbrev pub StepsGoOneByOne : Type 0
StepsGoOneByOne = (version : Version) (state : TerminalState) (source : Source) (order : OrderContent) → IsWhole state →
    GoOneByOne 1 state.visits → GoOneByOne 1 (step_by version state source order).state.visits
