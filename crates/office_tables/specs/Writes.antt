-- What a call that writes does to the transaction that it is in.
use Rattle.std.specs.Prelude.{Result, OnOk, IfErr, IsTrue, List, take}
use Rattle.sqlite.specs.{Effect.Database, State.{State, HasCleanDisk, KeepsCommit, Survives}, Table.Table}
use Rattle.office_rows.specs.{Rows.Rows, Steps.{Steps, Turns}, Stored.{HasEmpty, HasRows}, Tables.office_tables}
use Rattle.office_tables.specs.{declared.table_fault.TableFault.TableFault, Faults.IsOfStore, Opened.{AreMissing, MakesTables}, Order.KeepsOrder}

-- where it went well the rows are these, in order if they were before; whatever it answers, nothing is committed and a
-- crash leaves what it left before; and it fails only as the store does, or memory
pub record Writes {T : Type 0} (change : Rows → Rows) (old new : State) (result : Result T TableFault) : Type 0 where
  pub steps : HasCleanDisk new → IsTrue old.in_transaction → OnOk result (Steps change old new)
  pub in_order : HasCleanDisk new → IsTrue old.in_transaction → OnOk result (KeepsOrder change old new)
  pub keeps : HasCleanDisk new → IsTrue old.in_transaction → KeepsCommit old new
  pub survives : Survives old new (λ _. ⊥)
  pub fault : IfErr result IsOfStore

-- the same where the store was open, of a call that may have nothing to write, as of an empty list
pub record WritesIfOpen {T : Type 0} (change : Rows → Rows) (old new : State) (result : Result T TableFault)
    : Type 0 where
  pub steps : HasCleanDisk new → IsTrue old.in_transaction → IsTrue old.is_open → OnOk result (Steps change old new)
  pub in_order : HasCleanDisk new → IsTrue old.in_transaction → IsTrue old.is_open → OnOk result (KeepsOrder change old new)
  pub keeps : HasCleanDisk new → IsTrue old.in_transaction → IsTrue old.is_open → KeepsCommit old new
  pub survives : Survives old new (λ _. ⊥)
  pub fault : IfErr result IsOfStore

-- the same of a call that makes tables: where it went well they are new, and a database that is the one becomes the other
pub record Creates {T : Type 0} (tables : List Table) (from to : Database → Type 0) (old new : State)
    (result : Result T TableFault) : Type 0 where
  pub turns : HasCleanDisk new → IsTrue old.in_transaction → OnOk result (Turns from to old new)
  pub makes : HasCleanDisk new → IsTrue old.in_transaction →
      OnOk result (MakesTables tables old.now.schema new.now.schema)
  pub keeps : HasCleanDisk new → IsTrue old.in_transaction → KeepsCommit old new
  pub survives : Survives old new (λ _. ⊥)
  pub fault : IfErr result IsOfStore

-- the same of a call that makes all tables of an office with these rows: nothing had the name of one of them
pub record MakesOffice {T : Type 0} (rows : Rows) (old new : State) (result : Result T TableFault) : Type 0 where
  pub turns : HasCleanDisk new → IsTrue old.in_transaction →
      OnOk result (Turns (HasEmpty (take 0 office_tables)) (HasRows rows) old new)
  pub missing : HasCleanDisk new → IsTrue old.in_transaction → OnOk result (AreMissing office_tables old.now.schema)
  pub keeps : HasCleanDisk new → IsTrue old.in_transaction → KeepsCommit old new
  pub survives : Survives old new (λ _. ⊥)
  pub fault : IfErr result IsOfStore
