-- A store that is closed in its files.
use Rattle.std.specs.Prelude.{◌≡◌, ◌⊎◌, ℕ, List, Result}
use Rattle.sqlite.specs.{Files.HoldsDatabase, Recovery.Image, Tree.Trees}
use Rattle.sqlite_trees.specs.declared.store.Store.{Ghosts}
use Rattle.office_replies.specs.Events.{Event}
use Rattle.office_rows.specs.{Rows.Rows, Stored.StoresRows}
use Rattle.office_admission.specs.{Given.IsGiven, Setups.SetupContent}
use Rattle.office_commands.specs.{Opening.HoldsNoTables, Beside.HoldsBeside}
use Rattle.office_parts.specs.Archives.{Archive}
use Rattle.office_closing.specs.{Changes.empty_register, Register.{RegisterContent, closed_by}, Sound.IsSound, Copies.FileNames, Files.{AreClean, Files, files}}
use Rattle.office_closing.specs.{Closes.{AreOrderly, Closing, Held, IsClosing, raised_register}, PuttingAway.AreNamedThen, declared.planning.PutAway.PutAway}
use Rattle.office_closing.specs.declared.faults.CloseFault.{CloseFault}
use Rattle.office_archive_files.specs.{ClosedStores.OpensAfter, Closing.{ClosesOver, Images}, Shelves.HoldsArchive, Stops.{StopsLeaveOpen, StoresEither}}
use Rattle.sqlite.specs.Held as connection

-- files hold the rows of an office
pub record HoldsRows (image : Image) (rows : Rows) : Type 0 where
  pub db : Trees
  pub held : ∥ HoldsDatabase image db ∥₁
  pub are : StoresRows rows db

-- files hold this register: an empty one too if they hold no tables
abbrev pub HoldsRegister : Image → RegisterContent → Type 0
HoldsRegister image register =
    ((db : Trees) × ∥ HoldsDatabase image db ∥₁ × StoresEither register db)
    ⊎ (HoldsNoTables image × (register ≡ empty_register))

-- The four files of a closing hold this: the store opens after those events, beside these archives, which its register names.
-- The archive's rows are in order, and its register is sound. If the store's register has the archive already, that is the last
-- of these.
pub record HoldClosable (names : FileNames) (content : SetupContent) (es : List Event) (archives : List Archive) (held : Held)
    (images : Images) : Type 0 where
  pub given : IsGiven content
  pub own : HoldsRows images.store held.own
  pub register : HoldsRegister images.register held.register
  pub copy : HoldsRows images.archive held.copy
  pub copied : HoldsRegister images.archive_register held.copied
  pub opens : OpensAfter content es archives held.register held.own own.db
  pub copy_orderly : AreOrderly held.copy
  pub copied_sound : IsSound held.copied
  pub last : (closing : Closing) → IsClosing held names closing → held.register ≡ raised_register held closing →
      AreNamedThen held closing archives archives

-- Whatever a stop leaves: the store opens after those events, and the archive's files hold the rows that were compared.
pub record AreLeft (content : SetupContent) (es : List Event) (archives : List Archive) (copy : Rows) (files : Files)
    : Type 0 where
  pub store : StopsLeaveOpen content es archives copy files
  pub archive : (db : Trees) (image : Image) (one : Archive) → files.archive.may_leave db → ∥ HoldsDatabase image db ∥₁ →
      one.rows ≡ copy → HoldsArchive image one

-- A closing over files is no event: at whatever moment it stops, and however it ends, what is left of the store opens after the
-- events after which it opened before, beside the archives that it had, and the copy.
abbrev pub ClosingsOfFilesAreNoEvents : {S R A M : Type 0} → Ghosts S → Ghosts R → Ghosts A → Ghosts M → Type 0
ClosingsOfFilesAreNoEvents {S} {R} {A} {M} s r a m =
    (images : Images) (store archive : List ℕ) (own : connection.Held S) (register : connection.Held R)
    (copy : connection.Held A) (copied : connection.Held M) (result : Result PutAway CloseFault)
    (over : ClosesOver s r a m images store archive own register copy copied result) (content : SetupContent)
    (es : List Event) (archives : List Archive) (held : Held) →
    HoldClosable over.names content es archives held images → AreClean (files s r a m own register copy copied)
    → AreLeft content es archives held.copy (files s r a m own register copy copied)

-- Files that hold a store that opens after some events are opened so, beside these archives.
abbrev pub OpenStoresAreHeld : Type 0
OpenStoresAreHeld =
    (content : SetupContent) (es : List Event) (archives : List Archive) (register : RegisterContent) (rows : Rows)
    (db : Trees) (image : Image) → OpensAfter content es archives register rows db → ∥ HoldsDatabase image db ∥₁
    → HoldsBeside image archives (closed_by register) content es
