-- What making the tables commits.
use Rattle.std.specs.{Prelude.{◌≡◌, ℕ, false, List, IsTrue}, List.AllByRecursion}
use Rattle.sqlite.specs.{Table.Table, Schema.Schema, State.State, Tree.Trees}
use Rattle.sqlite_catalog.specs.Change.{is_used}
use Rattle.office_admission.specs.Setups.{SetupContent}
use Rattle.office_rows.specs.{Tables.no_schema, Stored.{HasRows, StoresRows}, Opening.opening_rows}

-- an empty database has the rows of the set-up, committed, and a crash leaves only these
pub record Opens (setup : SetupContent) (old new : State) : Type 0 where
  pub rows : old.committed.schema ≡ no_schema → HasRows (opening_rows setup) new.committed
  pub settled : new.now ≡ new.committed
  pub is_open : IsTrue new.is_open
  pub alone : (db : Trees) → new.may_leave db → db ≡ new.committed.trees

-- these are the rows of the set-up, whole
abbrev pub IsOpening : SetupContent → State → Trees → Type 0
IsOpening setup old db = old.committed.schema ≡ no_schema → StoresRows (opening_rows setup) db

-- nothing has the name of one of these tables
abbrev pub AreMissing : List Table → Schema → Type 0
AreMissing tables schema = AllByRecursion (λ (t : Table). is_used schema t.name ≡ false) tables

-- these tables are new, and what had a name has it still
pub record MakesTables (tables : List Table) (old new : Schema) : Type 0 where
  pub missing : AreMissing tables old
  pub keeps : (name : List ℕ) → is_used new name ≡ false → is_used old name ≡ false
