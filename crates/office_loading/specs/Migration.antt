-- What a migration leaves.
use Rattle.std.specs.Prelude.{◌≡◌, List, IsTrue, map}
use Rattle.sqlite.specs.{Order.Row, State.State, Effect.Database, Tree.Trees}
use Rattle.terminal_core.specs.State.{TerminalState}
use Rattle.office_admission.specs.Setups.{SetupContent}
use Rattle.office_rows.specs.{Tables.{interchange_table, no_schema, office_schema}, Layouts.bare_schema, Rows.{Interchange, Rows}, Opened.OpenedRows}
use Rattle.office_rows.specs.{Stored.{columns_of, HasRows, StoresRows}, Bare.HasBareRows, Migrated.migrated_rows, Places.ArePlaced}
use Rattle.office_tables.specs.Order.{HasRowsInOrder}
use Rattle.office_loading.specs.{Older.LoadsOlder, Copies.{AreStanding, copied_rows}}

-- what was committed is all there is, and a crash leaves only that
pub record IsSettled (s : State) : Type 0 where
  pub settled : s.now ≡ s.committed
  pub is_open : IsTrue s.is_open
  pub alone : (db : Trees) → s.may_leave db → db ≡ s.committed.trees

-- ---- the rows that were read, with interchanges

-- an empty database has these rows and the old store's interchanges, in the order in which they stand there, committed
pub record Copies (old : Database) (tables : OpenedRows) (before after : State) : Type 0 where
  pub copied : List Interchange
  pub are : AreStanding (old.trees 2) copied
  pub rows : before.committed.schema ≡ no_schema → HasRowsInOrder (copied_rows tables copied) after.committed
  pub stays : IsSettled after

-- these are these rows and the old store's interchanges, in the order in which they stand there, whole
abbrev pub IsCopy : Database → OpenedRows → Database → Trees → Type 0
IsCopy old tables before db = before.schema ≡ no_schema → old.schema ≡ bare_schema →
    (copied : List Interchange) × AreStanding (old.trees 2) copied
    × HasRowsInOrder (copied_rows tables copied) (record { schema = office_schema; trees = db })

-- ---- the rows of a store

-- the rows of one table stand in the other in the same order, and there under the rowids 1, 2, 3 and so on
pub record StandAlike (old new : List Row) : Type 0 where
  pub placed : ArePlaced 1 new
  pub same : map (columns_of interchange_table) new ≡ map (columns_of interchange_table) old

-- the old store holds an office of version 1 or 2; an empty database has its rows, brought to the newest version,
-- committed, and the interchanges in the order in which they stand in the old store
pub record Migrates (old : Database) (before after : State) : Type 0 where
  pub content : SetupContent
  pub terminal : TerminalState
  pub loads : LoadsOlder old content terminal
  pub rows : before.committed.schema ≡ no_schema → (rows : Rows) → HasBareRows rows old →
      HasRows (migrated_rows rows) after.committed
  pub in_order : before.committed.schema ≡ no_schema → (rows : Rows) → HasBareRows rows old →
      StandAlike (old.trees 2) (after.committed.trees 2)
  pub stays : IsSettled after

-- these are the rows of the old store, brought to the newest version, whole, and the interchanges in the order in which
-- they stand there
abbrev pub IsMigration : Database → Database → Trees → Type 0
IsMigration old before db = before.schema ≡ no_schema → (rows : Rows) → HasBareRows rows old →
    StoresRows (migrated_rows rows) db × StandAlike (old.trees 2) (db 2)
