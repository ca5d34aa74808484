-- A line that is done stays done.
use Rattle.std.specs.Prelude.{◌≡◌, ℕ, List, Option, Some}
use Rattle.terminal_core.specs.{declared.change.Version.Version, declared.lines.LineState.TheVariants.Done, State.{LineContent, LineKey, Lines}}
use Rattle.office_history.specs.Cascade.{TakenContent, AreTakenFrom}
use Rattle.office_admission.specs.Taking.{MachineState, interchange_taken_by}
use Rattle.std.specs.FinMap as finite_map

-- the line with this key stands, and is done
pub record IsDoneLine (lines : Lines) (key : LineKey) : Type 0 where
  pub line : LineContent
  pub there : finite_map.get lines key ≡ Some line
  pub is_done : line.state ≡ Done

-- whatever interchange is taken
abbrev pub DoneLinesStay : Type 0
DoneLinesStay =
    (version : Version) (machine : MachineState) (partner : ℕ) (text : List ℕ) (key : LineKey) →
    IsDoneLine machine.terminal.lines key
    → IsDoneLine (interchange_taken_by version machine partner text).0.terminal.lines key

-- and whatever run of them. So a list with such a line never loses all its lines.
abbrev pub DoneLinesStayInRuns : Type 0
DoneLinesStayInRuns =
    (partner : ℕ) (texts : ℕ → Option (List ℕ)) (number : ℕ) (machine : MachineState) (taken : List TakenContent)
    (machine' : MachineState) (key : LineKey) → AreTakenFrom partner texts number machine taken machine' →
    IsDoneLine machine.terminal.lines key
    → IsDoneLine machine'.terminal.lines key
