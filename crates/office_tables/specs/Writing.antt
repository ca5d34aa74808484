-- What writing a delivery commits.
use Rattle.std.specs.Prelude.{◌≡◌, false, Result, IfErr, IsTrue, OnErr, OnOk}
use Rattle.sqlite.specs.{State.{State, HasCleanDisk, Survives}, Tree.Trees}
use Rattle.office_rows.specs.{Rows.Rows, Stored.{HasRows, StoresRows}, Tables.office_schema}
use Rattle.office_tables.specs.{Faults.IsOfStore, Order.HasRowsInOrder, declared.table_fault.TableFault.TableFault}

-- the change is committed: the rows are these, in order if they were before, and a crash leaves only these
pub record Commits (change : Rows → Rows) (old new : State) : Type 0 where
  pub rows : (rows : Rows) → HasRows rows old.committed → HasRows (change rows) new.committed
  pub in_order : (rows : Rows) → HasRowsInOrder rows old.committed → HasRowsInOrder (change rows) new.committed
  pub settled : new.now ≡ new.committed
  pub is_open : IsTrue new.is_open
  pub alone : (db : Trees) → new.may_leave db → db ≡ new.committed.trees

-- nothing was committed, and nothing of the change is left
pub record IsUndone (old new : State) : Type 0 where
  pub now : new.now ≡ old.committed
  pub committed : new.committed ≡ old.committed

-- these are the rows after the change, whole
abbrev pub IsWhole : (Rows → Rows) → State → Trees → Type 0
IsWhole change old db = (rows : Rows) → HasRows rows old.committed → StoresRows (change rows) db

-- these are the rows after the change, whole and in order, if they were in order before
abbrev pub IsWholeInOrder : (Rows → Rows) → State → Trees → Type 0
IsWholeInOrder change old db = (rows : Rows) → HasRowsInOrder rows old.committed →
    HasRowsInOrder (change rows) (record { schema = office_schema; trees = db })

-- no transaction stays open; if the disk is clean in the end, it was before, and if the connection is open then too, it was
pub record EndsIdle (old new : State) : Type 0 where
  pub idle : new.in_transaction ≡ false
  pub clean : HasCleanDisk new → HasCleanDisk old
  pub was_open : HasCleanDisk new → IsTrue new.is_open → IsTrue old.is_open

-- The change is written whole or not at all. At Ok it is committed. At Err what was committed stays, while the connection
-- is open, and the store failed or memory was refused. A crash leaves what it left before, or the rows after the change.
pub record WritesWhole {X : Type 0} (change : Rows → Rows) (old new : State) (result : Result X TableFault) : Type 0 where
  pub ends : EndsIdle old new
  pub ok : HasCleanDisk new → OnOk result (Commits change old new)
  pub err : HasCleanDisk new → IsTrue new.is_open → OnErr result (new.committed ≡ old.committed)
  pub crash : Survives old new (IsWhole change old)
  pub fault : IfErr result IsOfStore
