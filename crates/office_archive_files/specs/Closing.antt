-- What the command that puts history away does to the four files that it opens.
use Rattle.std.specs.Prelude.{◌≡◌, ◌≢◌, ◌⊎◌, ⊤, ℕ, Bool, true, false, IsTrue, ◌==◌, List, length, Result, Ok, Err, IfOk}
use Rattle.sqlite_trees.specs.declared.store.Store.{Ghosts}
use Rattle.sqlite.specs.{Held.{Held, state}, Recovery.Image, State.HasCleanDisk}
use Rattle.office_rows.specs.Tables.{no_schema}
use Rattle.office_tables.specs.{Opened.AreMissing, Faults.IsOfStoreOr}
use Rattle.office_tables.specs.declared.table_fault.TableFault.{TableFault}
use Rattle.office_commands.specs.{Opening.{HoldsNoTables, Shows}, Paths.IsNameOf}
use Rattle.office_archive_files.specs.declared.closing.CloseCommandFault.{CloseCommandFault, TheVariants.{Folder, Close}}
use Rattle.office_closing.specs.{Changes.empty_register, Tables.register_tables, Transactions.{IsSettled, Makes}, Closes.{ArePutAway, Closes}, Copies.FileNames}
use Rattle.office_closing.specs.{Files.{AreClean, AreIdle, files}, declared.faults.CloseFault.CloseFault, declared.faults.File.{File, TheVariants.Archive}, Register.RegisterContent}
use Rattle.office_closing.specs.{declared.faults.Refusal.TheVariants.Register, declared.planning.PutAway.PutAway, Sound.IsSound, Stored.HasRegister}
use Rattle.office_closing.specs.declared.faults.CloseFault.TheVariants as fault

-- what the four files held
pub record Images : Type 0 where
  pub store : Image
  pub register : Image
  pub archive : Image
  pub archive_register : Image

module _ {S : Type 0} (g : Ghosts S) where
  -- what was committed of a connection has tables, and stayed
  pub record KeepsRegister (found conn : Held S) : Type 0 where
    pub some : (state g found).committed.schema ≢ no_schema
    pub same : (state g conn).committed ≡ (state g found).committed

  -- the tables of an empty register were made in what was committed of a connection, which had none of them, and it is told that
  -- the register names no archive
  pub record MakesRegister (names_none : Bool) (found conn : Held S) : Type 0 where
    pub before : Held S
    pub same : (state g before).committed ≡ (state g found).committed
    pub missing : AreMissing register_tables (state g found).committed.schema
    pub makes : Makes empty_register (state g before) (state g conn)
    pub tells : IsTrue names_none

  -- one or the other, the other only if it may
  abbrev pub MayMakeRegister : (may_make names_none : Bool) → (found conn : Held S) → Type 0
  MayMakeRegister may_make names_none found conn = KeepsRegister found conn ⊎ (IsTrue may_make × MakesRegister names_none found conn)

  -- of whatever sound register is committed, it is told whether it names no archive
  abbrev pub TellsNone : (conn : Held S) → (names_none : Bool) → Type 0
  TellsNone conn names_none =
      (content : RegisterContent) → HasRegister content (state g conn).committed → IsSound content
      → names_none ≡ (length content.archives == 0)

  -- A connection shows what its file held, of which that is told, or the tables of an empty register were made in that, if they
  -- may be. All is committed, and a crash leaves only that.
  pub record ShowsRegister (image : Image) (may_make names_none : Bool) (conn : Held S) : Type 0 where
    pub found : Held S
    pub shows : Shows g image found
    pub empty : HasCleanDisk (state g found) → HoldsNoTables image → (state g found).committed.schema ≡ no_schema
    pub clean : HasCleanDisk (state g conn) → HasCleanDisk (state g found)
    pub made : HasCleanDisk (state g conn) → MayMakeRegister may_make names_none found conn
    pub tells : HasCleanDisk (state g conn) → TellsNone found names_none
    pub settled : HasCleanDisk (state g conn) → IsSettled (state g conn)

-- whether a closing goes on, by whether the archive lies beside its store: in another folder it is refused, and a fault is of the
-- archive
abbrev pub checked_folder : Result Bool TableFault → Result (Unit {0}) CloseCommandFault
checked_folder (Ok true) = Ok tt
checked_folder (Ok false) = Err Folder
checked_folder (Err why) = Err (Close (fault.File (record { file = Archive; fault = why })))

-- why one of the files is not opened: memory was refused, the file failed or is damaged; or the archive lacks its register,
-- which may not be made
abbrev pub IsOfOpening : File → (may_make : Bool) → CloseFault → Type 0
IsOfOpening file may_make fault.Memory = Unit {0}
IsOfOpening file may_make (fault.File of) = (of.file ≡ file) × IsOfStoreOr ⊤ of.fault
IsOfOpening file may_make (fault.Archive why) = (why ≡ Register) × (may_make ≡ false)
IsOfOpening file may_make other = ⊥

-- The connections to a store, its register, an archive and its register: opened on files that held this, with no transaction on
-- any, so that what was committed is in memory and all that a crash leaves. The tables of the archive's register were made only
-- if the store's names no archive.
pub record AreOpened {S R A M : Type 0} (s : Ghosts S) (r : Ghosts R) (a : Ghosts A) (m : Ghosts M) (images : Images)
    (own : Held S) (register : Held R) (copy : Held A) (copied : Held M) : Type 0 where
  pub own_shows : Shows s images.store own
  pub own_settled : HasCleanDisk (state s own) → IsSettled (state s own)
  pub names_none : Bool
  pub register_shows : ShowsRegister r images.register true names_none register
  pub copy_shows : Shows a images.archive copy
  pub copy_settled : HasCleanDisk (state a copy) → IsSettled (state a copy)
  pub copied_none : Bool
  pub copied_shows : ShowsRegister m images.archive_register names_none copied_none copied
  pub idle : AreIdle (files s r a m own register copy copied)

-- Four such connections were opened, and closing them under the names of the two paths left these, with that answer.
pub record ClosesOver {S R A M : Type 0} (s : Ghosts S) (r : Ghosts R) (a : Ghosts A) (m : Ghosts M) (images : Images)
    (store archive : List ℕ) (own : Held S) (register : Held R) (copy : Held A) (copied : Held M)
    (result : Result PutAway CloseFault) : Type 0 where
  pub names : FileNames
  pub store_name : IsNameOf store names.store
  pub archive_name : IsNameOf archive names.archive
  pub found_own : Held S
  pub found_register : Held R
  pub found_copy : Held A
  pub found_copied : Held M
  pub opened : AreOpened s r a m images found_own found_register found_copy found_copied
  pub closes : Closes names (files s r a m found_own found_register found_copy found_copied)
      (files s r a m own register copy copied) result
  pub put_away : AreClean (files s r a m own register copy copied) →
      IfOk result (ArePutAway names (files s r a m found_own found_register found_copy found_copied))
