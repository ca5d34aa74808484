-- What a command prints of the texts that are kept.
use Rattle.std.specs.Prelude.{◌≡◌, ◌⊎◌, ◌≤◌, ◌<◌, ℕ, List, [], Bool, true, false, Option, Result, IfOk, IfErr, IsTrue, codes, drop, length}
use Rattle.std.specs.Io.KnownBytes.{Appends, Keeps}
use Rattle.sqlite_trees.specs.declared.store.Store.{Ghosts}
use Rattle.sqlite.specs.{Files.HoldsDatabase, Held.{Held, state}, Order.Row, Recovery.Image, State.{State, HasCleanDisk}, Tree.Trees}
use Rattle.office_replies.specs.Events.{Event}
use Rattle.office_rows.specs.{Rows.Rows, Stored.StoresRows, Tables.interchange_table}
use Rattle.office_admission.specs.Setups.{SetupContent}
use Rattle.office_tables.specs.{Faults.IsOfStore, DeliveryReading.OnlyReads, Reading.Reads, declared.table_fault.TableFault.TableFault}
use Rattle.office_loading.specs.{Pages.lines_of, Texts.has_reached, Writing.AreWritten}
use Rattle.office_desk.specs.{Rebuilding.KeepsTexts, declared.desk.Desk.Desk}
use Rattle.office_parts.specs.Archives.{Archive}
use Rattle.office_closing.specs.Register.{RegisterContent}
use Rattle.office_archives.specs.Texts.{IsJournalWritten}
use Rattle.office_commands.specs.{Beside.{IsBesideShelf, OpensOn}, Delivering.LeavesAlike, Opening.{BeginsAt, HoldsTables}, Reporting.office_database}

-- All texts after a number are printed and flushed, with 0; or there are fewer than that, and `none` is, with 1; or the
-- writer failed, with 3.
abbrev pub PrintsTexts : (from : ℕ) → List Row → (old new : Option (List ℕ)) → (failed flushed : Bool) → (status : ℕ) → Type 0
PrintsTexts from stored old new failed flushed status =
    ((status ≡ 0) × (has_reached from stored ≡ true) × AreWritten from stored old new × (flushed ≡ true))
    ⊎ (((status ≡ 1) × (has_reached from stored ≡ false) × Appends old new (codes "none\n") × (flushed ≡ true))
    ⊎ ((status ≡ 3) × (failed ≡ true)))

-- These texts are printed after the first of them and flushed, with 0; or there are fewer, and `none` is, with 1; or the
-- writer failed, with 3.
abbrev pub PrintsKept : (from : ℕ) → List (List ℕ) → (old new : Option (List ℕ)) → (failed flushed : Bool) → (status : ℕ) → Type 0
PrintsKept from texts old new failed flushed status =
    ((status ≡ 0) × (from ≤ length texts) × Appends old new (lines_of (drop from texts)) × (flushed ≡ true))
    ⊎ (((status ≡ 1) × (length texts < from) × Appends old new (codes "none\n") × (flushed ≡ true))
    ⊎ ((status ≡ 3) × (failed ≡ true)))

-- What is printed of an office's database: the texts by the rows of its interchanges; and where these stand under the
-- rowids 1, 2, 3 and so on, those after the first of them.
pub record PrintsOf (from : ℕ) (db : Trees) (old new : Option (List ℕ)) (failed flushed : Bool) (status : ℕ) : Type 0 where
  pub rows : PrintsTexts from (db interchange_table.tree) old new failed flushed status
  pub in_order : (texts : List (List ℕ)) → KeepsTexts texts (office_database db) →
      PrintsKept from texts old new failed flushed status

-- the files hold a database with these rows
pub record HoldsRows (image : Image) (rows : Rows) : Type 0 where
  pub db : Trees
  pub held : ∥ HoldsDatabase image db ∥₁
  pub has : StoresRows rows db

-- ---- a store of which nothing was put away

-- so far its disk has returned what was written, and it is open
abbrev pub IsSoundStore : {S : Type 0} (g : Ghosts S) → Held S → Type 0
IsSoundStore g conn = HasCleanDisk (state g conn) × IsTrue (state g conn).is_open

-- Texts were printed of a store that was opened on those files and then only read. If its disk is clean in the end, then
-- of whatever rows the files held, after some events or of any office. If it is open too: a fault is one of the store or
-- of memory; what the files held is committed still; and a crash leaves the rows after the events that led to them.
pub record PrintsAlone {S : Type 0} (g : Ghosts S) (image : Image) (prints : Trees → (status : ℕ) → Type 0) (opened : Desk S g)
    (outcome : Result ℕ TableFault) (conn : Held S) : Type 0 where
  pub reads : Reads (state g opened.conn) (state g conn) outcome
  pub printed : HasCleanDisk (state g conn) → (rows : Rows) → (held : HoldsRows image rows) →
      IfOk outcome (prints held.db)
  pub fault : IsSoundStore g conn → (rows : Rows) → HoldsRows image rows → IfErr outcome IsOfStore
  pub stays : IsSoundStore g conn → (db : Trees) → HoldsTables image db →
      (state g conn).committed ≡ office_database db
  pub leaves : IsSoundStore g conn → (content : SetupContent) (es : List Event) → BeginsAt image content es →
      LeavesAlike content es [] [] (state g conn)

-- ---- a store and its archives

-- what was written is flushed, with 0, if all that were to be passed over are there; else `none` is printed, with 1; or the
-- writer failed, with 3
abbrev pub EndsTexts : (left : ℕ) → (written new : Option (List ℕ)) → (failed flushed : Bool) → (status : ℕ) → Type 0
EndsTexts left written new failed flushed status =
    ((status ≡ 0) × (left ≡ 0) × Keeps written new × (flushed ≡ true))
    ⊎ (((status ≡ 1) × (0 < left) × Appends written new (codes "none\n") × (flushed ≡ true))
    ⊎ ((status ≡ 3) × (failed ≡ true)))

-- the texts of the archives of a register and of the store were written, without the first so many, and ended so; or the
-- writer failed, with 3
abbrev pub PrintsJournal : {S : Type 0} (g : Ghosts S) (Opens : (place : ℕ) → Held S → Type 0) → RegisterContent →
    (from : ℕ) → (read shown : State) → (old new : Option (List ℕ)) → (failed flushed : Bool) → (status : ℕ) → Type 0
PrintsJournal g Opens names from read shown old new failed flushed status =
    ((left : ℕ) × (written : Option (List ℕ)) × IsJournalWritten g Opens names from read shown old written left
    × EndsTexts left written new failed flushed status)
    ⊎ ((status ≡ 3) × (failed ≡ true))

-- Its archives are on a shelf: the texts of all were printed by what store and archives showed, and nothing changed.
pub record PrintsBeside {S T F : Type 0} (g : Ghosts S) (t : Ghosts T) (hold : List Archive → Type 0)
    (holds : List Archive → F → Type 0) (Opens : F → (place : ℕ) → Held T → Type 0) (names : RegisterContent) (from : ℕ)
    (old new : Option (List ℕ)) (failed flushed : Bool) (opened : Desk S g) (left : Held S) (status : Result ℕ TableFault)
    : Type 0 where
  pub shelf : F
  pub beside : IsBesideShelf hold holds names opened shelf
  pub prints : IfOk status
      (PrintsJournal t (Opens shelf) names from (state g left) (state g opened.conn) old new failed flushed)
  pub reads : OnlyReads (state g opened.conn) (state g left) status

-- A store was opened on those files, and a sound register was read, which says what is closed of it. If it names no archive, the
-- texts of the store were printed, and else those of its archives and of the store.
pub record ArePrintedOver {S T F : Type 0} (g : Ghosts S) (t : Ghosts T) (hold : List Archive → Type 0)
    (holds : List Archive → F → Type 0) (Opens : F → (place : ℕ) → Held T → Type 0) (image : Image) (from : ℕ)
    (old new : Option (List ℕ)) (failed flushed : Bool) (left : Held S) (status : Result ℕ TableFault) : Type 0 where
  pub opened : Desk S g
  pub names : RegisterContent
  pub opens : OpensOn g image opened
  pub printed :
      ((names.archives ≡ []) × PrintsAlone g image (λ db. PrintsOf from db old new failed flushed) opened status left)
      ⊎ PrintsBeside g t hold holds Opens names from old new failed flushed opened left status
