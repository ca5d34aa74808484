-- What a call that only reads does to its connection.
use Rattle.std.specs.Prelude.{◌≡◌, ℕ, List, None, Result, Ok, OnOk, IsTrue, false}
use Rattle.sqlite.specs.{Listing.understood, Schema.Schema, State.{State, HasCleanDisk, IsUnchanged, KeepsCommit, Survives}}
use Rattle.sqlite_resolve.specs.declared.compiled.Compiled.{Compiled}
use Rattle.office_tables.specs.declared.table_fault.TableFault.{TableFault}

-- Whatever tables there are: at Ok the database is as it was; whatever the call answers, nothing is committed, no
-- transaction begins, and a crash leaves what it left before. If the disk is clean or the connection open as the call
-- ends, it was so as it began.
pub record Reads {T : Type 0} (old new : State) (result : Result T TableFault) : Type 0 where
  pub unchanged : HasCleanDisk new → OnOk result (IsUnchanged old new)
  pub keeps : HasCleanDisk new → KeepsCommit old new
  pub mode : old.in_transaction ≡ false → new.in_transaction ≡ false
  pub survives : Survives old new (λ _. ⊥)

-- the same where the store was open, of a call that may have nothing to read, as for an empty list
pub record ReadsIfOpen {T : Type 0} (old new : State) (result : Result T TableFault) : Type 0 where
  pub unchanged : HasCleanDisk new → IsTrue old.is_open → OnOk result (IsUnchanged old new)
  pub keeps : HasCleanDisk new → KeepsCommit old new
  pub mode : old.in_transaction ≡ false → new.in_transaction ≡ false
  pub survives : Survives old new (λ _. ⊥)

-- under any schema the text has no RETURNING: what it shows are the rows of a query
abbrev pub OnlyShows : List ℕ → Type 0
OnlyShows sql = (schema : Schema) (c : Compiled) → understood schema sql ≡ Ok c → c.returning ≡ None
