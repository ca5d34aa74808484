-- What the calls that write do to the transaction that they are in, and what a whole one commits.
use Rattle.std.specs.Prelude.{◌≡◌, Result, OnOk, IfErr, IsTrue}
use Rattle.sqlite.specs.{State.{State, HasCleanDisk, KeepsCommit, Survives}, Effect.Database, Tree.Trees}
use Rattle.office_rows.specs.Tables.{no_schema}
use Rattle.office_tables.specs.{declared.table_fault.TableFault.TableFault, Faults.IsOfStore}
use Rattle.office_closing.specs.{Register.RegisterContent, Stored.{HasRegister, HasWhole, StoresRegister}}

-- ---- inside a transaction

-- how a database has a register before a call: in any layout, or in all five tables
abbrev pub Holding : Type 1
Holding = RegisterContent → Database → Type 0

-- a register that was `from` is `to`, in the transaction that goes on
pub record StepsTo (Has Then : Holding) (from to : RegisterContent → RegisterContent) (old new : State) : Type 0 where
  pub register : (content : RegisterContent) → Has (from content) old.now → Then (to content) new.now
  pub inside : IsTrue new.in_transaction
  pub committed : new.committed ≡ old.committed
  pub is_open : IsTrue new.is_open

-- it is that in all five tables
abbrev pub Steps : Holding → (from to : RegisterContent → RegisterContent) → (old new : State) → Type 0
Steps Has = StepsTo Has HasWhole

-- where it went well it is that step; whatever it answers, nothing is committed and a crash leaves what it left before;
-- and it fails only as the store does, or memory
pub record WritesTo {T : Type 0} (Has Then : Holding) (from to : RegisterContent → RegisterContent) (old new : State)
    (result : Result T TableFault) : Type 0 where
  pub steps : HasCleanDisk new → IsTrue old.in_transaction → OnOk result (StepsTo Has Then from to old new)
  pub keeps : HasCleanDisk new → IsTrue old.in_transaction → KeepsCommit old new
  pub survives : Survives old new (λ _. ⊥)
  pub fault : IfErr result IsOfStore

abbrev pub Writes : {T : Type 0} → Holding → (from to : RegisterContent → RegisterContent) → (old new : State) →
    Result T TableFault → Type 0
Writes Has = WritesTo Has HasWhole

-- the same where the store was open, of a call that may have nothing to write
pub record WritesIfOpen {T : Type 0} (Has : Holding) (from to : RegisterContent → RegisterContent) (old new : State)
    (result : Result T TableFault) : Type 0 where
  pub steps : HasCleanDisk new → IsTrue old.in_transaction → IsTrue old.is_open → OnOk result (Steps Has from to old new)
  pub keeps : HasCleanDisk new → IsTrue old.in_transaction → IsTrue old.is_open → KeepsCommit old new
  pub survives : Survives old new (λ _. ⊥)
  pub fault : IfErr result IsOfStore

-- ---- a whole one

-- what was committed is in memory too, the store is open, and a crash leaves this and nothing else
pub record IsSettled (new : State) : Type 0 where
  pub settled : new.now ≡ new.committed
  pub is_open : IsTrue new.is_open
  pub alone : (db : Trees) → new.may_leave db → db ≡ new.committed.trees

-- an empty database has this register, committed
pub record Makes (content : RegisterContent) (old new : State) : Type 0 where
  pub register : old.committed.schema ≡ no_schema → HasRegister content new.committed
  pub is_settled : IsSettled new

-- a register that was `from` has become `to`, committed
pub record Becomes (from to : RegisterContent → RegisterContent) (old new : State) : Type 0 where
  pub register : (content : RegisterContent) → HasRegister (from content) old.committed →
      HasRegister (to content) new.committed
  pub is_settled : IsSettled new

-- these are the trees of what an empty database has become, whole
abbrev pub IsMade : RegisterContent → State → Trees → Type 0
IsMade content old db = old.committed.schema ≡ no_schema → StoresRegister content db

-- these are the trees of what the register has become, whole
abbrev pub HasBecome : (RegisterContent → RegisterContent) → (RegisterContent → RegisterContent) → State → Trees →
    Type 0
HasBecome from to old db = (content : RegisterContent) → HasRegister (from content) old.committed →
    StoresRegister (to content) db
