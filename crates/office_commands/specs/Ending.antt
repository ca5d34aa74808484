-- How a command ends: its exit status, and what is reported.
use Rattle.std.specs.{Prelude.{◌≡◌, ◌≤◌, ◌⊎◌, ℕ, ◌+◌, ◌-◌, ◌^◌, min, List, [], Bool, true, false, Option, Result, Ok, Err, codes}, Io.KnownBytes.Appends}
use Rattle.office_replies.specs.{declared.deliver.Worst.Worst, declared.deliver.Worst.TheVariants.{Fine, Refused, NotNow}, Fronts.AppendsFront}
use Rattle.office_replies.specs.{declared.port.Port.Port, declared.stream.StreamFault.StreamFault, declared.stream.StreamFault.TheVariants.{Read, Write, Turns}}
use Rattle.office_tables.specs.{declared.table_fault.TableFault.TableFault, declared.table_fault.TableFault.TheVariants.{Store, Damaged, Version, Memory}}

-- ---- statuses and texts

-- the status of a stream that was run to its end
abbrev pub status_of : Worst → ℕ
status_of Fine = 0
status_of Refused = 1
status_of NotNow = 3

-- what is reported of a store's fault
abbrev pub store_text : TableFault → List ℕ
store_text (Store error) = codes "store: Store\n"
store_text Damaged = codes "store: Damaged\n"
store_text Version = codes "store: Version\n"
store_text Memory = codes "store: Memory\n"

-- what is reported of a stream's fault. A failed write is reported only by the status.
abbrev pub stream_text : StreamFault → List ℕ
stream_text Read = codes "cannot read\n"
stream_text Turns = codes "turns\n"
stream_text Write = []

-- The text is what was reported, if telling it has not failed.
abbrev pub Tells : (failed : Bool) (told told' : Option (List ℕ)) → List ℕ → Type 0
Tells failed told told' text = failed ≡ false → Appends told told' text

-- A text was printed, whole and flushed, with the status that it has; or a front of it, and 3, since the writer failed.
abbrev pub Prints : (failed failed' flushed' : Bool) (written written' : Option (List ℕ)) →
    List ℕ → (wanted status : ℕ) → Type 0
Prints failed failed' flushed' written written' text wanted status =
    ((status ≡ wanted) × Appends written written' text × (failed' ≡ failed) × (flushed' ≡ true))
    ⊎ ((status ≡ 3) × AppendsFront written written' text × (failed' ≡ true))

-- ---- how a stream came out: the worst of its answers, or why it was left

abbrev pub outcome_status : Result Worst StreamFault → ℕ
outcome_status (Ok worst) = status_of worst
outcome_status (Err fault) = 3

abbrev pub outcome_text : Result Worst StreamFault → List ℕ
outcome_text (Ok worst) = []
outcome_text (Err fault) = stream_text fault

-- how many reads of an input are made at most
abbrev pub most_turns : ℕ
most_turns = 100000000

-- the reader and the writer of a stream
pub record Ports (R W : Type 0) : Type 0 where
  pub reader : Port R
  pub writer : Port W

module _ {R W : Type 0} where
  abbrev pub ports : Port R → Port W → Ports R W
  ports reader writer = record { reader = reader; writer = writer }

  -- neither has failed since
  abbrev pub NoneFails : (old new : Ports R W) → Type 0
  NoneFails old new = (new.reader.failed ≡ old.reader.failed) × (new.writer.failed ≡ old.writer.failed)

  -- all that was written is flushed, if it was so before
  abbrev pub StaysFlushed : (old new : Ports R W) → Type 0
  StaysFlushed old new = old.writer.flushed ≡ true → new.writer.flushed ≡ true

  -- At the end neither port has failed, and all that was written is flushed. A fault of the reader or of the writer is
  -- that it has failed, and the other has not. It is Turns only if so many reads were made, of which the last had not
  -- found the end.
  abbrev pub LeavesPorts : (old new : Ports R W) → Result Worst StreamFault → Type 0
  LeavesPorts old new (Ok worst) = NoneFails old new × (new.writer.flushed ≡ true)
  LeavesPorts old new (Err Read) =
      (new.reader.failed ≡ true) × (new.writer.failed ≡ old.writer.failed) × StaysFlushed old new
  LeavesPorts old new (Err Write) = (new.writer.failed ≡ true) × (new.reader.failed ≡ old.reader.failed)
  LeavesPorts old new (Err Turns) =
      NoneFails old new × (min (old.reader.reads + most_turns) (2 ^ 64 - 1) ≤ new.reader.reads)
      × (new.reader.ended ≡ false) × StaysFlushed old new

-- A command that runs a stream ends with the status of how that came out, and tells it. What it leaves of the ports and
-- of the office is said by that.
pub record StreamEnds (leaves_ports leaves : Result Worst StreamFault → Type 0) (tells : List ℕ → Type 0)
    (status : ℕ) : Type 0 where
  pub outcome : Result Worst StreamFault
  pub status_is : status ≡ outcome_status outcome
  pub told : tells (outcome_text outcome)
  pub ports_are : leaves_ports outcome
  pub left : leaves outcome
