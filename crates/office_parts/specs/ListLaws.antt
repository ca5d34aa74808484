-- What holds beside lists that were put away, for interchanges that name none of them.
use Rattle.std.specs.Prelude.{◌≡◌, ℕ, ◌≤◌, Bool, List, Option, Some}
use Rattle.terminal_core.specs.{State.{TerminalState, IsWhole}, Forms.IsWellFormed, Changes.rows_of, Versions.newest, Step.step_by}
use Rattle.terminal_core.specs.{declared.change.Source.Source, declared.change.Version.Version}
use Rattle.edi_messages.specs.Orders.{OrderContent}
use Rattle.office_rows.specs.{Rows.Rows, ByKey.terminal_rows}
use Rattle.office_admission.specs.Taking.{MachineState, interchange_taken_by, interchange_changes_by}
use Rattle.office_history.specs.Cascade.{TakenContent, AreTakenFrom, with_run}
use Rattle.office_parts.specs.OwnLists.{ListName, without_lists, step_without, machine_without, rows_without_lists}
use Rattle.office_parts.specs.Naming.{lists_in_order, interchange_lists, AreHere}

-- ---- the terminal

-- an order that names none of them does the same without them: the same outcome, the same changes, and without them what
-- it leaves
abbrev pub OrdersSpareLists : Type 0
OrdersSpareLists =
    (away : ListName → Bool) (version : Version) (state : TerminalState) (source : Source) (order : OrderContent) →
    AreHere away (lists_in_order order)
    → step_by version (without_lists away state) source order ≡ step_without away (step_by version state source order)

-- a terminal without them is whole as the one with them is, and each of its values in its form
abbrev pub TerminalsWithoutListsAreSound : Type 0
TerminalsWithoutListsAreSound =
    (away : ListName → Bool) (state : TerminalState) → IsWhole state → IsWellFormed state
    → IsWhole (without_lists away state) × IsWellFormed (without_lists away state)

-- an interchange is taken without them as with them: the same reply, the same changes
pub record IsTakenWithout (away : ListName → Bool) (version : Version) (machine : MachineState) (partner : ℕ)
    (text : List ℕ) : Type 0 where
  pub taken : interchange_taken_by version (machine_without away machine) partner text
      ≡ (
        machine_without away (interchange_taken_by version machine partner text).0,
        (interchange_taken_by version machine partner text).1,
      )
  pub changes : interchange_changes_by version (machine_without away machine) partner text
      ≡ interchange_changes_by version machine partner text

abbrev pub InterchangesSpareLists : Type 0
InterchangesSpareLists =
    (away : ListName → Bool) (version : Version) (machine : MachineState) (partner : ℕ) (text : List ℕ) →
    AreHere away (interchange_lists version machine.codes machine.kinds partner text)
    → IsTakenWithout away version machine partner text

-- each text of the partner from that number on names own lists only
abbrev pub NameOwnLists : (away : ListName → Bool) → MachineState → ℕ → (ℕ → Option (List ℕ)) → ℕ → Type 0
NameOwnLists away machine partner texts number =
    (k : ℕ) (text : List ℕ) → number ≤ k → texts k ≡ Some text
    → AreHere away (interchange_lists newest machine.codes machine.kinds partner text)

-- a run that is taken without them is taken with them, and leaves the machine that it left without them
pub record IsRunWithout (away : ListName → Bool) (partner : ℕ) (texts : ℕ → Option (List ℕ)) (number : ℕ)
    (machine : MachineState) (taken : List TakenContent) (there : MachineState) : Type 0 where
  pub machine' : MachineState
  pub from : AreTakenFrom partner texts number machine taken machine'
  pub beside : there ≡ machine_without away machine'

abbrev pub RunsSpareLists : Type 0
RunsSpareLists =
    (away : ListName → Bool) (partner : ℕ) (texts : ℕ → Option (List ℕ)) (number : ℕ) (machine : MachineState)
    (taken : List TakenContent) (there : MachineState) → NameOwnLists away machine partner texts number →
    AreTakenFrom partner texts number (machine_without away machine) taken there
    → IsRunWithout away partner texts number machine taken there

-- ---- the rows

-- the rows without them give the terminal without them
abbrev pub RowsWithoutListsGiveTerminal : Type 0
RowsWithoutListsGiveTerminal =
    (away : ListName → Bool) (rows : Rows) (state : TerminalState) → terminal_rows rows ≡ rows_of state
    → terminal_rows (rows_without_lists away rows) ≡ rows_of (without_lists away state)

-- a run is written to the rows without them as to those with them
abbrev pub RunsAreWrittenWithout : Type 0
RunsAreWrittenWithout =
    (away : ListName → Bool) (rows : Rows) (partner : ℕ) (texts : ℕ → Option (List ℕ)) (number : ℕ) (text : List ℕ)
    (machine : MachineState) (taken : List TakenContent) (machine' : MachineState) →
    NameOwnLists away machine partner texts number → AreTakenFrom partner texts number machine taken machine'
    → with_run partner number text taken (rows_without_lists away rows)
    ≡ rows_without_lists away (with_run partner number text taken rows)
