-- The steps of a closing that change a register, each only if it is due.
use Rattle.std.specs.Prelude.{◌≡◌, Bool, true, false, Result, IfErr, IsTrue, OnErr, OnOk}
use Rattle.sqlite.specs.State.{State, HasCleanDisk, Survives}
use Rattle.office_tables.specs.Faults.{IsOfStore}
use Rattle.office_closing.specs.{Register.RegisterContent, Transactions.{Becomes, HasBecome}, declared.faults.CloseFault.CloseFault}
use Rattle.office_closing.specs.declared.planning.Stage.{Stage}
use Rattle.office_closing.specs.declared.faults.CloseFault.TheVariants as fault
use Rattle.office_closing.specs.declared.planning.Stage.TheVariants as stage

-- the archive is to be marked
abbrev pub is_unmarked : Stage → Bool
is_unmarked stage.New = true
is_unmarked stage.Marked = false
is_unmarked stage.Raised = false

-- the store's register is to have the archive
abbrev pub is_unraised : Stage → Bool
is_unraised stage.New = true
is_unraised stage.Marked = true
is_unraised stage.Raised = false

-- a file could not be written: the store failed, or memory was refused
abbrev pub IsOfWriting : CloseFault → Type 0
IsOfWriting (fault.Archive why) = ⊥
IsOfWriting (fault.File of) = IsOfStore of.fault
IsOfWriting (fault.Comparing of) = ⊥
IsOfWriting fault.Memory = ⊥

-- it is as it was
pub record IsAsBefore (old new : State) : Type 0 where
  pub now : new.now ≡ old.now
  pub committed : new.committed ≡ old.committed
  pub is_open : new.is_open ≡ old.is_open

-- If it is due, the register becomes that, committed, or stays as it was committed, and a crash leaves that too; else it is
-- as it was.
pub record StepsIf {T : Type 0} (due : Bool) (from to : RegisterContent → RegisterContent) (old new : State)
    (result : Result T CloseFault) : Type 0 where
  pub idle : new.in_transaction ≡ false
  pub made : HasCleanDisk new → due ≡ true → OnOk result (Becomes from to old new)
  pub kept : due ≡ false → IsAsBefore old new
  pub undone : HasCleanDisk new → IsTrue new.is_open → OnErr result (new.committed ≡ old.committed)
  pub crash : Survives old new (λ db. (due ≡ true) × HasBecome from to old db)
  pub fault : IfErr result IsOfWriting
