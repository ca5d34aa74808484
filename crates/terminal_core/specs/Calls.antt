-- What the calls on a terminal do and answer.
use Rattle.std.specs.Prelude.{◌≡◌, ◌≤◌, Bool, true, false, List, ◌++◌, Ok, Err, find, filter, length, is_some}
use Rattle.box6346.specs.{SizeCode.length_of, declared.box_number.BoxNumber.BoxNumber, declared.slot.Slot.Slot}
use Rattle.edi_messages.specs.Orders.{EntryContent}
use Rattle.yard_core.specs.{declared.plan.Block.Block, Plan.InPlan, YardMap.{YardMap, placement, stowed}, Calls.Places, declared.yard.YardFault.YardFault}
use Rattle.yard_core.specs.Decisions.{Refusal, fault_of}
use Rattle.terminal_core.specs.{declared.change.Outcome.Outcome, declared.change.Outcome.TheVariants.{Done, Gone, Listed, Refused}, Versions.newest}
use Rattle.terminal_core.specs.{declared.change.Reason.Reason, Rows.{VisitContent, ChangeContent}, State.{TerminalState, is_open_visit}}
use Rattle.terminal_core.specs.Step.{StepResult, yard_with_entry, reason_of}

-- the state, the answer and the changes that were added are those of a step
pub record Follows (step : StepResult) (now : TerminalState) (answer : Outcome)
    (old new : List ChangeContent) : Type 0 where
  pub state : now ≡ step.state
  pub outcome : answer ≡ step.outcome
  pub changes : new ≡ old ++ step.changes

-- the fault says what a refusal says, and that is the reason
pub record IsReasonFor (fault : YardFault) (reason : Reason) : Type 0 where
  pub refusal : Refusal
  pub fault_is : fault ≡ fault_of refusal
  pub reason_is : reason ≡ reason_of refusal

-- the container of an entry was placed
pub record Settles (old new : YardMap) (entry : EntryContent) (slot : Slot) : Type 0 where
  pub settled : yard_with_entry newest old entry ≡ Ok (new, slot)
  pub places : Places old new entry.number (stowed (placement (length_of entry.size_type) slot) entry.is_laden)

-- the container of an entry was not placed
pub record IsUnsettled (old : YardMap) (entry : EntryContent) (given : Reason) : Type 0 where
  pub refusal : Refusal
  pub settled : yard_with_entry newest old entry ≡ Err refusal
  pub reason : given ≡ reason_of refusal

-- the container has one open visit
pub record HasOneVisit (container : BoxNumber) (visits : List VisitContent) : Type 0 where
  pub one_visit : length (filter (is_open_visit container) visits) ≤ 1
  pub here : is_some (find (is_open_visit container) visits) ≡ true

-- the slot that an outcome tells is one of the plan's
abbrev pub IsPlanned : List Block → Outcome → Type 0
IsPlanned plan (Done slot) = InPlan plan slot
IsPlanned plan Gone = Unit {0}
IsPlanned plan Listed = Unit {0}
IsPlanned plan (Refused reason) = Unit {0}

abbrev pub is_refused : Outcome → Bool
is_refused (Done slot) = false
is_refused Gone = false
is_refused Listed = false
is_refused (Refused reason) = true
