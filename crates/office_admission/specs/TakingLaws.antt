-- What interchanges change, as a whole: the laws of a step hold of all orders of an interchange, one after the other,
-- and of all interchanges of a run.
use Rattle.std.specs.Prelude.{◌≡◌, ℕ, ◌≤◌, List, [], ◌∷◌, ◌++◌, length}
use Rattle.yard_core.specs.{Plan.IsPlan, YardMap.YardMap}
use Rattle.partner_core.specs.{ByPlace.taken_by_place, Deliveries.Delivery, Machine.Taking, Order.{state_after, state}}
use Rattle.terminal_core.specs.{Rows.ChangeContent, State.{empty_state, IsWhole}, Forms.IsWellFormed, OneByOne.GoOneByOne, declared.change.Version.Version}
use Rattle.terminal_core.specs.Changes.{rows_of, rows_with_all, AreApplicable}
use Rattle.office_admission.specs.{Limits.most_partners, declared.setup.Setup.Setup}
use Rattle.office_admission.specs.Taking.{MachineState, machine_of, interchange_taken_by, interchange_changes_by, interchange_taken, interchange_changes}
use Rattle.std.specs.FinMap as finite_map

-- ---- an interchange, by the rules of any version

-- what an interchange leaves of a whole terminal is whole
abbrev pub InterchangesKeepWhole : Type 0
InterchangesKeepWhole =
    (version : Version) (machine : MachineState) (partner : ℕ) (text : List ℕ) → IsWhole machine.terminal →
    IsWhole (interchange_taken_by version machine partner text).0.terminal

-- its changes turn the rows of the old terminal into those of the new
abbrev pub InterchangeChangesTurnRows : Type 0
InterchangeChangesTurnRows =
    (version : Version) (machine : MachineState) (partner : ℕ) (text : List ℕ) → IsWhole machine.terminal
    → rows_with_all (rows_of machine.terminal) (interchange_changes_by version machine partner text)
    ≡ rows_of (interchange_taken_by version machine partner text).0.terminal

-- each of its changes adds, alters or removes one row
abbrev pub InterchangeChangesAreApplicable : Type 0
InterchangeChangesAreApplicable =
    (version : Version) (machine : MachineState) (partner : ℕ) (text : List ℕ) → IsWhole machine.terminal
    → AreApplicable (rows_of machine.terminal) (interchange_changes_by version machine partner text)

-- what an interchange of one of at most 999 partners leaves of a whole and well-formed terminal is well formed
abbrev pub InterchangesKeepForms : Type 0
InterchangesKeepForms =
    (version : Version) (machine : MachineState) (partner : ℕ) (text : List ℕ) → length machine.kinds ≤ most_partners →
    IsWhole machine.terminal →
    IsWellFormed machine.terminal
    → IsWellFormed (interchange_taken_by version machine partner text).0.terminal

-- there are at most 999 partners, and the terminal is whole and well formed, its visits numbered one by one
pub record IsSoundMachine (machine : MachineState) : Type 0 where
  pub few : length machine.kinds ≤ most_partners
  pub whole : IsWhole machine.terminal
  pub one_by_one : GoOneByOne 1 machine.terminal.visits
  pub formed : IsWellFormed machine.terminal

-- whatever text is taken, a machine that was sound stays so
abbrev pub KeepsSound : Taking MachineState → Type 0
KeepsSound taken =
    (machine : MachineState) (partner : ℕ) (text : List ℕ) → IsSoundMachine machine →
    IsSoundMachine (taken machine partner text).0

-- whatever text is taken, what a machine is set up with stays as it is: its parties, codes, kinds, blocks and how many
-- visits it may record
abbrev pub ChangesTerminalAlone : Taking MachineState → Type 0
ChangesTerminalAlone taken =
    (machine : MachineState) (partner : ℕ) (text : List ℕ)
    → (taken machine partner text).0 ≡ record machine { terminal = (taken machine partner text).0.terminal }

-- the rules of any version keep a machine sound
abbrev pub InterchangesKeepSound : Type 0
InterchangesKeepSound = (version : Version) → KeepsSound (interchange_taken_by version)

-- and change nothing but its terminal
abbrev pub InterchangesChangeTerminalAlone : Type 0
InterchangesChangeTerminalAlone = (version : Version) → ChangesTerminalAlone (interchange_taken_by version)

-- ---- cascades

-- what taking the texts of these partners and numbers in turn changes of the terminal's rows
abbrev pub cascade_changes : MachineState → (ℕ → ℕ → List ℕ) → List (ℕ × ℕ) → List ChangeContent
cascade_changes machine texts [] = []
cascade_changes machine texts (e ∷ numbers) =
    interchange_changes machine e.0 (texts e.0 e.1)
    ++ cascade_changes (interchange_taken machine e.0 (texts e.0 e.1)).0 texts numbers

-- they turn the rows of the old terminal into those of the new
abbrev pub CascadeChangesTurnRows : Type 0
CascadeChangesTurnRows =
    (machine : MachineState) (texts : ℕ → ℕ → List ℕ) (numbers : List (ℕ × ℕ)) → IsWhole machine.terminal
    → rows_with_all (rows_of machine.terminal) (cascade_changes machine texts numbers)
    ≡ rows_of (state_after interchange_taken texts numbers machine).terminal

-- each adds, alters or removes one row
abbrev pub CascadeChangesAreApplicable : Type 0
CascadeChangesAreApplicable =
    (machine : MachineState) (texts : ℕ → ℕ → List ℕ) (numbers : List (ℕ × ℕ)) → IsWhole machine.terminal
    → AreApplicable (rows_of machine.terminal) (cascade_changes machine texts numbers)

-- ---- runs

-- a machine of a set-up with at most 999 partners over a terminal with nothing in it is sound
abbrev pub OpeningsAreSound : Type 0
OpeningsAreSound =
    (setup : Setup) (yard : YardMap) → length setup.partners.items ≤ most_partners → IsPlan yard.plan →
    yard.boxes ≡ finite_map.empty → IsSoundMachine (machine_of setup (empty_state yard setup.visit_limit))

-- rules that change at a place of the list keep a machine sound where both do
abbrev pub ByPlaceKeepsSound : Type 0
ByPlaceKeepsSound =
    (number_of : List ℕ → ℕ) (before : List Delivery) (old new : Taking MachineState) → KeepsSound old →
    KeepsSound new → KeepsSound (taken_by_place number_of before old new)

-- and change nothing but its terminal where neither does
abbrev pub ByPlaceChangesTerminalAlone : Type 0
ByPlaceChangesTerminalAlone =
    (number_of : List ℕ → ℕ) (before : List Delivery) (old new : Taking MachineState) → ChangesTerminalAlone old →
    ChangesTerminalAlone new → ChangesTerminalAlone (taken_by_place number_of before old new)

-- whatever texts are delivered, a machine that was sound stays so, by any rules each of whose steps keeps it so
abbrev pub DeliveriesKeepSound : Type 0
DeliveriesKeepSound =
    (taken : Taking MachineState) (opening : MachineState) (ds : List Delivery) → KeepsSound taken →
    IsSoundMachine opening → IsSoundMachine (state taken opening ds)

-- and what it is set up with stays, by any rules that change nothing but the terminal
abbrev pub DeliveriesChangeTerminalAlone : Type 0
DeliveriesChangeTerminalAlone =
    (taken : Taking MachineState) (opening : MachineState) (ds : List Delivery) → ChangesTerminalAlone taken
    → state taken opening ds ≡ record opening { terminal = (state taken opening ds).terminal }
