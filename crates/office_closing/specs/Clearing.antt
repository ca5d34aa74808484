-- What clearing a store of rows that were closed commits: some transactions, one after the other.
use Rattle.std.specs.Prelude.{◌≡◌, ℕ, true, Bool, Result, IfErr, IsTrue, OnErr, OnOk}
use Rattle.sqlite.specs.{State.{State, HasCleanDisk, Survives}, Tree.Trees}
use Rattle.office_rows.specs.{Rows.{Interchange, Rows}, Stored.{HasRows, StoresRows}}
use Rattle.office_tables.specs.{Faults.IsOfStore, declared.table_fault.TableFault.TableFault, Writing.EndsIdle}
use Rattle.office_parts.specs.{LeftOver.rows_without, OwnLists.{ListName, rows_without_lists}}
use Rattle.office_closing.specs.Deleting.{with_visits_that}

-- the most rows that one transaction deletes (our own)
abbrev pub most_at_once : ℕ
most_at_once = 1000

-- ---- what may be left

-- rows without some of the interchanges that go, and with all else
pub record IsWithoutSome (goes : Interchange → Bool) (rows left : Rows) : Type 0 where
  pub deleted : Interchange → Bool
  pub only : (i : Interchange) → deleted i ≡ true → goes i ≡ true
  pub is : left ≡ rows_without deleted rows

-- rows without some of the visits that don't stay, and with all else
pub record IsWithoutSomeVisits (stays : ℕ → Bool) (rows left : Rows) : Type 0 where
  pub kept : ℕ → Bool
  pub only : (number : ℕ) → stays number ≡ true → kept number ≡ true
  pub is : left ≡ with_visits_that kept rows

-- rows without the lines of some of the lists that go
pub record IsWithoutSomeLists (goes : ListName → Bool) (rows left : Rows) : Type 0 where
  pub deleted : ListName → Bool
  pub only : (list : ListName) → deleted list ≡ true → goes list ≡ true
  pub is : left ≡ rows_without_lists deleted rows

-- ---- what is committed

-- the rows are these, committed, and a crash leaves only these
pub record IsCleared (change : Rows → Rows) (old new : State) : Type 0 where
  pub rows : (rows : Rows) → HasRows rows old.committed → HasRows (change rows) new.committed
  pub settled : new.now ≡ new.committed
  pub is_open : IsTrue new.is_open
  pub alone : (db : Trees) → new.may_leave db → db ≡ new.committed.trees

-- the rows are some that may be left, committed
pub record IsPartlyCleared (MayBeLeft : Rows → Rows → Type 0) (old new : State) : Type 0 where
  pub rows : (rows : Rows) → HasRows rows old.committed →
      (left : Rows) × MayBeLeft rows left × HasRows left new.committed
  pub settled : new.now ≡ new.committed

-- these trees store rows that may be left of those that an open store had committed
abbrev pub StoresLeft : (MayBeLeft : Rows → Rows → Type 0) → State → Trees → Type 0
StoresLeft MayBeLeft old db =
    IsTrue old.is_open → (rows : Rows) → HasRows rows old.committed →
    (left : Rows) × MayBeLeft rows left × StoresRows left db

-- At Ok the change is committed whole. At Err, while the connection is open, some rows are left that may be, committed;
-- and the store failed or memory was refused. A crash at any moment leaves what it left before, or rows that may be left.
pub record Clears {T : Type 0} (change : Rows → Rows) (MayBeLeft : Rows → Rows → Type 0) (old new : State)
    (result : Result T TableFault) : Type 0 where
  pub ends : EndsIdle old new
  pub ok : HasCleanDisk new → IsTrue old.is_open → OnOk result (IsCleared change old new)
  pub err : HasCleanDisk new → IsTrue new.is_open → OnErr result (IsPartlyCleared MayBeLeft old new)
  pub crash : Survives old new (StoresLeft MayBeLeft old)
  pub fault : IfErr result IsOfStore
