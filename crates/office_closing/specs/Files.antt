-- The four files of a closing: the store and its register, the archive and its register.
use Rattle.std.specs.Prelude.{◌≡◌, false, Result, IsTrue, OnOk}
use Rattle.sqlite.specs.{Held.{Held, state}, State.{State, HasCleanDisk, IsUnchanged, KeepsCommit, Survives}}
use Rattle.sqlite_trees.specs.declared.store.Store.{Ghosts}
use Rattle.office_tables.specs.DeliveryReading.{IsSame}

-- what the connections to the four show
pub record Files : Type 1 where
  pub store : State
  pub register : State
  pub archive : State
  pub archive_register : State

-- The connections may be of four types: what is said of a file goes by its type, so that two files under one type would be
-- said to hold the same.
abbrev pub files : {S R A M : Type 0} → Ghosts S → Ghosts R → Ghosts A → Ghosts M →
    Held S → Held R → Held A → Held M → Files
files s r a m store register archive archive_register = record {
  store = state s store;
  register = state r register;
  archive = state a archive;
  archive_register = state m archive_register;
}

-- the disks have returned what was written
pub record AreClean (files : Files) : Type 0 where
  pub store : HasCleanDisk files.store
  pub register : HasCleanDisk files.register
  pub archive : HasCleanDisk files.archive
  pub archive_register : HasCleanDisk files.archive_register

-- no transaction is open
pub record AreIdle (files : Files) : Type 0 where
  pub store : files.store.in_transaction ≡ false
  pub register : files.register.in_transaction ≡ false
  pub archive : files.archive.in_transaction ≡ false
  pub archive_register : files.archive_register.in_transaction ≡ false

-- ---- reading

-- At Ok the file is as it was. Whatever the call answers, nothing is committed, no transaction begins, and a crash leaves
-- what it left before.
pub record IsRead {T E : Type 0} (old new : State) (result : Result T E) : Type 0 where
  pub unchanged : HasCleanDisk new → OnOk result (IsUnchanged old new)
  pub keeps : HasCleanDisk new → KeepsCommit old new
  pub mode : old.in_transaction ≡ false → new.in_transaction ≡ false
  pub survives : Survives old new (λ _. ⊥)

-- the same of a call that may have nothing to read
pub record IsReadIfOpen {T E : Type 0} (old new : State) (result : Result T E) : Type 0 where
  pub same : HasCleanDisk new → OnOk result (IsSame old new)
  pub unchanged : HasCleanDisk new → IsTrue old.is_open → OnOk result (IsUnchanged old new)
  pub keeps : HasCleanDisk new → KeepsCommit old new
  pub mode : old.in_transaction ≡ false → new.in_transaction ≡ false
  pub survives : Survives old new (λ _. ⊥)

pub record AreRead {T E : Type 0} (old new : Files) (result : Result T E) : Type 0 where
  pub store : IsRead old.store new.store result
  pub register : IsRead old.register new.register result
  pub archive : IsRead old.archive new.archive result
  pub archive_register : IsRead old.archive_register new.archive_register result
