-- What a migration leaves of two stores, by what their files held.
use Rattle.std.specs.Prelude.{◌≡◌, ◌⊎◌, ℕ, List, [], ◌∷◌, ◌++◌, IsTrue, Result, Ok, Err, IfErr, OnOk, OnErr, codes}
use Rattle.sqlite_disk.specs.declared.Disk.{Ghosts as DiskGhosts}
use Rattle.sqlite_trees.specs.declared.store.Store.{Ghosts}
use Rattle.sqlite.specs.{Effect.Database, Files.{HoldsDatabase, file_state, over_files}, Held.{Held, state}, Recovery.Image, Tree.Trees}
use Rattle.sqlite.specs.{State.{State, HasCleanDisk, Survives}, declared.FileStore.FileStore}
use Rattle.terminal_core.specs.declared.change.Version.{Version}
use Rattle.office_replies.specs.Events.{Event, migrated}
use Rattle.office_admission.specs.Setups.{SetupContent}
use Rattle.office_rows.specs.{Bare.HasBareRows, Layouts.bare_schema, Migrated.migrated_rows, Rows.Rows, Stored.HasRows, Tables.{interchange_table, no_schema}}
use Rattle.office_tables.specs.{Faults.IsOfStore, Reading.Reads, declared.table_fault.TableFault.TableFault}
use Rattle.office_loading.specs.{History.{HoldsAfter, IsOlderAfter, StoresAfter}, Migration.{IsMigration, Migrates, StandAlike}}
use Rattle.office_desk.specs.Crashes.{IsAfter, Leaves}
use Rattle.office_commands.specs.{Opening.{HoldsNoTables, ShowsHeld}, Reporting.office_database}

-- ---- between two stores of any kind

-- a connection after a look at the office that it shows: it was only read, and no change was under way
pub record IsLookedAt {S : Type 0} (g : Ghosts S) (found conn : Held S) : Type 0 where
  pub reads : Reads {T = Unit {0}} (state g found) (state g conn) (Ok tt)
  pub settled : HasCleanDisk (state g conn) → (state g found).now ≡ (state g found).committed

-- what is said of a migration from one connection to another, of how it came out, and of both as it left them
pub record MigratesBetween {S T : Type 0} (g : Ghosts S) (h : Ghosts T) (old : Held S) (new : Held T)
    (outcome : Result ℕ TableFault) (older : Held S) (newer : Held T) : Type 0 where
  pub ok : HasCleanDisk (state h newer) → HasCleanDisk (state g older) → (state g old).now.schema ≡ bare_schema →
      OnOk outcome (Migrates (state g old).now (state h new) (state h newer))
  pub goes_on : HasCleanDisk (state h newer) → HasCleanDisk (state g older) →
      (state h new).committed.schema ≡ no_schema → (version : Version) (content : SetupContent) (es : List Event) →
      IsOlderAfter version content es (state g old).now →
      OnOk outcome (HoldsAfter content (es ++ migrated version ∷ []) (state h newer).committed)
  pub stops : HasCleanDisk (state g older) → (state h new).committed.schema ≡ no_schema →
      (version : Version) (content : SetupContent) (es : List Event) → IsOlderAfter version content es (state g old).now →
      Survives (state h new) (state h newer) (StoresAfter content (es ++ migrated version ∷ []))
  pub no_damage : HasCleanDisk (state g older) → (version : Version) (content : SetupContent) (es : List Event) →
      IsOlderAfter version content es (state g old).now → IfErr outcome IsOfStore
  pub crash : HasCleanDisk (state g older) →
      Survives (state h new) (state h newer) (IsMigration (state g old).now (state h new).committed)
  pub undone : HasCleanDisk (state h newer) → IsTrue (state h newer).is_open →
      OnErr outcome ((state h newer).committed ≡ (state h new).committed)
  pub reads : Reads (state g old) (state g older) outcome

-- the same of a new store in files, as the files that were opened held it
pub record FillsNew {S D : Type 0} (g : Ghosts S) {h : DiskGhosts D} (new_image : Image) (old : Held S)
    (outcome : Result ℕ TableFault) (older : Held S) (newer : Held (FileStore D h)) : Type 0 where
  pub found : Held (FileStore D h)
  pub shows : HasCleanDisk (file_state found) → ShowsHeld new_image found
  pub no_tables : HasCleanDisk (file_state found) → HoldsNoTables new_image → (file_state found).committed.schema ≡ no_schema
  pub migrates : MigratesBetween g over_files old found outcome older newer

-- ---- what the files of the old store hold

-- a database with these rows, in the tables of version 1 and 2
pub record HoldsBare (image : Image) (rows : Rows) : Type 0 where
  pub db : Trees
  pub held : ∥ HoldsDatabase image db ∥₁
  pub has : HasBareRows rows (record { schema = bare_schema; trees = db })

-- a database with the rows that a store of version 1 or 2 has after those events
pub record HoldsOlder (image : Image) (version : Version) (content : SetupContent) (es : List Event) : Type 0 where
  pub db : Trees
  pub held : ∥ HoldsDatabase image db ∥₁
  pub after : IsOlderAfter version content es (record { schema = bare_schema; trees = db })

-- a connection to those files, after a look at the office that they hold
pub record IsJudged {D : Type 0} {g : DiskGhosts D} (image : Image) (conn : Held (FileStore D g)) : Type 0 where
  pub found : Held (FileStore D g)
  pub shows : HasCleanDisk (file_state found) → ShowsHeld image found
  pub looked : IsLookedAt over_files found conn

-- ---- what the new store holds

-- the rows of an older store's trees, brought to the newest version, with the interchanges in the order in which they
-- stand there
pub record TakesOver (rows : Rows) (older : Trees) (db : Database) : Type 0 where
  pub has : HasRows (migrated_rows rows) db
  pub in_order : StandAlike (older interchange_table.tree) (db.trees interchange_table.tree)

-- these are committed, and a crash leaves only them
pub record CommitsOver (rows : Rows) (older : Trees) (s : State) : Type 0 where
  pub committed : TakesOver rows older s.committed
  pub alone : (db : Trees) → s.may_leave db → TakesOver rows older (office_database db)

-- the rows after those events are committed, and a crash leaves only them
abbrev pub GoesOnFrom : SetupContent → List Event → State → Type 0
GoesOnFrom content es s = HoldsAfter content es s.committed × Leaves content es s

-- The new store was made of what the old one keeps, or there is a fault, and it was not. The old store was only read. Said
-- if both disks have told the truth, of new files that held no table: the new store has the old rows, so changed, and the
-- interchanges in their order; it goes on from the events of the old one and the migration; a crash leaves what it would
-- have left before, or that whole; and what comes of events is refused only for the store.
pub record IsMigratedOver {D E : Type 0} {g : DiskGhosts D} {h : DiskGhosts E} (old_image new_image : Image)
    (outcome : Result ℕ TableFault) (older : Held (FileStore D g)) (newer : Held (FileStore E h)) : Type 0 where
  pub judged : Held (FileStore D g)
  pub is_judged : IsJudged old_image judged
  pub reads : Reads (file_state judged) (file_state older) outcome
  pub found : Held (FileStore E h)
  pub shows : HasCleanDisk (file_state found) → ShowsHeld new_image found
  pub undone : HasCleanDisk (file_state newer) → IsTrue (file_state newer).is_open →
      OnErr outcome ((file_state newer).committed ≡ (file_state found).committed)
  pub refused : HasCleanDisk (file_state older) → (version : Version) (content : SetupContent) (es : List Event) →
      HoldsOlder old_image version content es → IfErr outcome IsOfStore
  pub rows : HasCleanDisk (file_state older) → HasCleanDisk (file_state newer) → HoldsNoTables new_image → (rows : Rows) →
      (held : HoldsBare old_image rows) → OnOk outcome (CommitsOver rows held.db (file_state newer))
  pub whole : HasCleanDisk (file_state older) → HasCleanDisk (file_state newer) → HoldsNoTables new_image → (rows : Rows) →
      (held : HoldsBare old_image rows) → (db : Trees) → (file_state newer).may_leave db →
      (file_state found).may_leave db ⊎ TakesOver rows held.db (office_database db)
  pub goes_on : HasCleanDisk (file_state older) → HasCleanDisk (file_state newer) → HoldsNoTables new_image →
      (version : Version) (content : SetupContent) (es : List Event) → HoldsOlder old_image version content es →
      OnOk outcome (GoesOnFrom content (es ++ migrated version ∷ []) (file_state newer))
  pub crash : HasCleanDisk (file_state older) → HasCleanDisk (file_state newer) → HoldsNoTables new_image →
      (version : Version) (content : SetupContent) (es : List Event) → HoldsOlder old_image version content es →
      (db : Trees) → (file_state newer).may_leave db →
      (file_state found).may_leave db ⊎ IsAfter content (es ++ migrated version ∷ []) db

-- ---- what is printed

-- the line, with the status that it has, if the new store was made, and nothing if there is a fault
abbrev pub TellsReady : (Unwritten : Type 0) → (Printed : List ℕ → (wanted status : ℕ) → Type 0) →
    Result ℕ TableFault → Type 0
TellsReady Unwritten Printed (Ok status) = Printed (codes "ready\n") 0 status
TellsReady Unwritten Printed (Err fault) = Unwritten
