-- Which archive is that of a place of a store.
use Rattle.std.specs.{Prelude.{◌≡◌, ◌↔◌, ℕ, ◌+◌, ◌-◌, ◌==◌, Bool, nat_lt, List, filter, length, Some, slice_get, true, IsTrue}, List.list_all, Option.unwrap_or}
use Rattle.sqlite.specs.{Held.{Held, state}, Recovery.Image, State.HasCleanDisk, declared.error.Error.Error}
use Rattle.sqlite_trees.specs.declared.store.Store.{Ghosts}
use Rattle.terminal_core.specs.State.{TerminalState, last_number}
use Rattle.office_rows.specs.{Rows.Rows, Shown.AreNexts, Stored.HasRows, Tables.office_schema}
use Rattle.office_loading.specs.{Closed.ClosedContent, Tables.LoadsOwn}
use Rattle.office_admission.specs.Setups.{SetupContent}
use Rattle.office_commands.specs.{Opening.Shows, Paths.IsNameOf}
use Rattle.office_closing.specs.{Copies.AreFirst, Lists.SettledListContent, Register.{ArchiveContent, RegisterContent, closed_by, is_passed}, Sound.is_sound}
use Rattle.office_closing.specs.{Seals.HasSeals, declared.register.Segment.Segment}
use Rattle.office_history.specs.After.{AreKeptOnce}
use Rattle.office_tables.specs.{declared.table_fault.TableFault.TableFault, declared.table_fault.TableFault.TheVariants.{Memory, Store}}

-- An archive's own register is that of the archive at a place of the store whose register names the archives: it is marked for
-- the store in this file, and has the archives before that place, with their segments and lists.
pub record IsRegisterAt (store : List ℕ) (place : ℕ) (names own : RegisterContent) : Type 0 where
  pub marked : own.closed_for ≡ Some store
  pub before : length own.archives + 1 ≡ place
  pub archives : AreFirst own.archives names.archives
  pub segments : own.segments ≡ filter (λ (segment : Segment). nat_lt segment.archive place) names.segments
  pub lists : own.lists ≡ filter (λ (list : SettledListContent). nat_lt list.archive place) names.lists

-- it is of the store's terminal, and its accounts are the first of the store's
pub record IsOfOffice (archive store : SetupContent) : Type 0 where
  pub terminal : archive.terminal ≡ store.terminal
  pub accounts : AreFirst archive.partners store.partners

-- it keeps all numbers of these segments, and its newest visit has that number
pub record Reaches (segments : List Segment) (visits : ℕ) (nexts : List ℕ) (terminal : TerminalState) : Type 0 where
  pub below : list_all (is_passed nexts) segments ≡ true
  pub newest : last_number terminal.visits ≡ visits

-- ---- what is looked at before an archive is read

-- the segments of the archive at a place
abbrev pub segments_at : ℕ → List Segment → List Segment
segments_at place = filter (λ (segment : Segment). segment.archive == place)

-- the store that goes on: the one in this file, or the one for which its register is marked
abbrev pub going_on : RegisterContent → (file : List ℕ) → List ℕ
going_on names file = unwrap_or names.closed_for file

-- Of the store at a path the register that names these archives, and an archive's own, which is sound, name the archive of that
-- place: this is closed of it, these segments it closed, and its newest visit has that number.
pub record IsNamedAt (path : List ℕ) (names : RegisterContent) (place : ℕ) (closed : ClosedContent) (segments : List Segment)
    (visits : ℕ) : Type 0 where
  pub file : List ℕ
  pub is_file : IsNameOf path file
  pub own : RegisterContent
  pub archive : ArchiveContent
  pub own_sound : IsTrue (is_sound own)
  pub register : IsRegisterAt (going_on names file) place names own
  pub is_one : slice_get names.archives (place - 1) ≡ Some archive
  pub closed_is : closed ≡ closed_by own
  pub segments_are : segments ≡ segments_at place names.segments
  pub visits_are : archive.visits ≡ visits

-- What was read is the archive of that place of the store at a path, of this set-up and with this register: these name it so, it
-- is of the store's terminal, with the first of the store's accounts, and it keeps the numbers that it closed.
pub record IsReadAt (path : List ℕ) (store : SetupContent) (names : RegisterContent) (place : ℕ) : Type 0 where
  pub closed : ClosedContent
  pub segments : List Segment
  pub visits : ℕ
  pub content : SetupContent
  pub terminal : TerminalState
  pub nexts : List ℕ
  pub named : IsNamedAt path names place closed segments visits
  pub office : IsOfOffice content store
  pub reaches : Reaches segments visits nexts terminal

-- A connection to files that held this shows it, as far as its disk has returned what was written: its tables are those of an
-- office beyond what its own register closes.
pub record PassesAt {S : Type 0} (g : Ghosts S) (image : Image) (path : List ℕ) (store : SetupContent) (names : RegisterContent)
    (place : ℕ) (conn : Held S) : Type 0 where
  pub shows : Shows g image conn
  pub read : IsReadAt path store names place
  pub loads : HasCleanDisk (state g conn) → (state g conn).committed.schema ≡ office_schema →
      LoadsOwn read.closed (state g conn).committed read.content read.terminal
  pub are_nexts : HasCleanDisk (state g conn) → (rows : Rows) → HasRows rows (state g conn).committed →
      AreNexts rows read.nexts

-- A connection has passed so; and then its rows were looked through: this is whether it keeps all that the store's register has
-- sealed with it, as far as its disk has returned what was written, and while it is open.
pub record IsSealedAt {S : Type 0} (g : Ghosts S) (image : Image) (path : List ℕ) (store : SetupContent)
    (names : RegisterContent) (place : ℕ) (is_sealed : Bool) : Type 0 where
  pub found : Held S
  pub last : Held S
  pub passes : PassesAt g image path store names place found
  pub sealed : HasCleanDisk (state g last) → IsTrue (state g last).is_open → (rows : Rows) →
      HasRows rows (state g found).committed → AreKeptOnce rows.interchanges →
      (is_sealed ≡ true) ↔ HasSeals names place rows

-- a fault with this error says that the archive of a place is not there, or not its own; out of memory says nothing of it
abbrev pub SaysNoArchive : (no_archive : Error) → TableFault → Type 0
SaysNoArchive no_archive (Store error) = error ≡ no_archive
SaysNoArchive no_archive Memory = Unit {0}
SaysNoArchive no_archive other = ⊥
