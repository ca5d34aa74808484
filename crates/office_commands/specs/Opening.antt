-- How the office opens: over tables in memory, and over files.
use Rattle.std.specs.Prelude.{◌≡◌, ◌⊎◌, List, []}
use Rattle.sqlite_disk.specs.declared.Disk.{Ghosts as DiskGhosts}
use Rattle.sqlite_catalog.specs.Listing.{Lists}
use Rattle.sqlite_trees.specs.{Objects.catalog_tree, declared.memory.MemStore.MemStore, declared.store.Store.Ghosts}
use Rattle.sqlite.specs.{Files.{HoldsDatabase, file_state}, Held.{Held, state}, Recovery.Image, Schema.Schema, State.HasCleanDisk, Steps.over_memory}
use Rattle.sqlite.specs.{Tree.Trees, declared.FileStore.FileStore}
use Rattle.office_admission.specs.{Given.IsGiven, Setups.{SetupContent, setup_content}}
use Rattle.office_replies.specs.Events.{Event}
use Rattle.office_rows.specs.Tables.{office_schema, no_schema}
use Rattle.office_history.specs.After.{SaysSame}
use Rattle.office_desk.specs.{Crashes.IsAfter, Desks.StandsFor, Offices.OpensOffice, declared.desk.Desk.Desk}

-- ---- over tables in memory

-- a desk over tables in memory
abbrev pub MemoryDesk : Type 0
MemoryDesk = Desk MemStore over_memory

-- a desk whose set-up says the same, to which nothing has been delivered
pub record OpensEmpty (content : SetupContent) (desk : MemoryDesk) : Type 0 where
  pub says : SaysSame (setup_content desk.setup) content
  pub stands : StandsFor over_memory (setup_content desk.setup) [] desk

-- ---- over files

-- the files hold this database, and it lists the office's tables and nothing else
pub record HoldsTables (image : Image) (db : Trees) : Type 0 where
  pub held : ∥ HoldsDatabase image db ∥₁
  pub lists : Lists (db catalog_tree) office_schema

-- the database file is empty, or the files hold a database without tables
abbrev pub HoldsNoTables : Image → Type 0
HoldsNoTables image = (image.db ≡ []) ⊎ ((db : Trees) × ∥ HoldsDatabase image db ∥₁ × Lists (db catalog_tree) no_schema)

-- the files hold a database with the rows after those events
pub record HoldsAfter (image : Image) (content : SetupContent) (es : List Event) : Type 0 where
  pub db : Trees
  pub held : ∥ HoldsDatabase image db ∥₁
  pub after : IsAfter content es db

-- the files hold the rows after those events, of a set-up that set-up files could give
abbrev pub BeginsAt : Image → SetupContent → List Event → Type 0
BeginsAt image content es = IsGiven content × HoldsAfter image content es

-- a connection to a store in files shows the database that these held, with the tables that it lists
abbrev pub ShowsHeld : {D : Type 0} {g : DiskGhosts D} → Image → Held (FileStore D g) → Type 0
ShowsHeld image conn =
    (db : Trees) (schema : Schema) → ∥ HoldsDatabase image db ∥₁ → Lists (db catalog_tree) schema →
    (file_state conn).committed ≡ record { schema = schema; trees = db }

module _ {S : Type 0} (g : Ghosts S) where
  -- as far as its disk has returned what was written, a connection shows the database that its file held
  abbrev pub Shows : Image → Held S → Type 0
  Shows image conn =
      HasCleanDisk (state g conn) → (db : Trees) (schema : Schema) → ∥ HoldsDatabase image db ∥₁ →
      Lists (db catalog_tree) schema → (state g conn).committed ≡ record { schema = schema; trees = db }

  -- a desk that was opened over a connection which shows this database of the office's tables
  pub record OpensOver (db : Trees) (desk : Desk S g) : Type 0 where
    pub was : Held S
    pub shows : (state g was).committed ≡ record { schema = office_schema; trees = db }
    pub office : OpensOffice g (state g was) desk
