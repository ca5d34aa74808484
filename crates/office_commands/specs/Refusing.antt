-- Why a store is not opened.
use Rattle.std.specs.Prelude.{◌≡◌, ◌≢◌, ◌⊎◌, ⊤, None, Ok, Err, IsTrue}
use Rattle.sqlite.specs.{Effect.Database, Held.{Held, state}, Recovery.Image, State.HasCleanDisk}
use Rattle.sqlite_trees.specs.declared.store.Store.{Ghosts}
use Rattle.office_rows.specs.{Rows.Rows, Stored.HasRows, Tables.office_schema}
use Rattle.office_tables.specs.{DeliveryReading.OnlyReads, Faults.{IsOfStore, IsOfStoreOr}, declared.table_fault.TableFault.TableFault}
use Rattle.office_tables.specs.declared.table_fault.TableFault.TheVariants.{Memory}
use Rattle.office_loading.specs.Closed.{ClosedContent}
use Rattle.office_closing.specs.{Register.{RegisterContent, closed_by}, Refusing.{AreOlder, IsOfOtherTerminal}, Sound.is_sound}
use Rattle.office_desk.specs.Offices.{FailsToOpen}
use Rattle.office_commands.specs.{Opening.Shows, declared.offices.OpenFault.OpenFault}
use Rattle.office_commands.specs.declared.offices.OpenFault.TheVariants.{Closed, Store, Register, Older, Other}

-- ---- by which step

-- its file can't be opened: the store failed, or memory was refused
abbrev pub IsUnopened : OpenFault → Type 0
IsUnopened Closed = ⊥
IsUnopened (Store fault) = IsOfStore fault
IsUnopened (Register fault) = ⊥
IsUnopened Older = ⊥
IsUnopened Other = ⊥

-- its register can't be read, or has a mark
abbrev pub IsOfRegister : (Marked : Type 0) → OpenFault → Type 0
IsOfRegister Marked Closed = Marked
IsOfRegister Marked (Store fault) = ⊥
IsOfRegister Marked (Register fault) = IsOfStoreOr ⊤ fault
IsOfRegister Marked Older = ⊥
IsOfRegister Marked Other = ⊥

-- a sound register has a mark
abbrev pub IsMarked : Type 0
IsMarked = (names : RegisterContent) × IsTrue (is_sound names) × (names.closed_for ≢ None)

-- its tables can't be loaded: memory was refused, or the fault is the one that they deserve
abbrev pub IsUnloaded : ClosedContent → Database → TableFault → Type 0
IsUnloaded closed db fault = (fault ≡ Memory) ⊎ FailsToOpen closed db fault

-- ---- of files

-- a connection showed what the files held, and was only read
pub record IsUnloadedOver {S : Type 0} (g : Ghosts S) (image : Image) (fault : TableFault) : Type 0 where
  pub found : Held S
  pub last : Held S
  pub names : RegisterContent
  pub shows : Shows g image found
  pub sound : IsTrue (is_sound names)
  pub reads : OnlyReads {T = Unit {0}} (state g found) (state g last) (Err fault)
  pub deserved : HasCleanDisk (state g last) → IsTrue (state g last).is_open →
      (state g found).committed.schema ≡ office_schema → IsUnloaded (closed_by names) (state g found).committed fault

-- a connection showed what the files held, and was only read; its rows are of a day before a sound register
pub record IsOlderOver {S : Type 0} (g : Ghosts S) (image : Image) : Type 0 where
  pub found : Held S
  pub last : Held S
  pub names : RegisterContent
  pub shows : Shows g image found
  pub sound : IsTrue (is_sound names)
  pub reads : OnlyReads {T = Unit {0}} (state g found) (state g last) (Ok tt)
  pub older : HasCleanDisk (state g last) → (rows : Rows) → HasRows rows (state g found).committed → AreOlder names rows

-- a connection showed what the files held, and was only read; a sound register is of another terminal than the office that it shows
pub record IsOfOtherOver {S : Type 0} (g : Ghosts S) (image : Image) : Type 0 where
  pub found : Held S
  pub last : Held S
  pub names : RegisterContent
  pub shows : Shows g image found
  pub sound : IsTrue (is_sound names)
  pub reads : OnlyReads {T = Unit {0}} (state g found) (state g last) (Ok tt)
  pub other : HasCleanDisk (state g last) → (state g found).committed.schema ≡ office_schema →
      IsOfOtherTerminal names (state g found).committed

-- It is an archive, if that counts; its file can't be opened, or its tables can't be loaded; its register can't be read, or is
-- another terminal's; or it is of a day before that.
abbrev pub IsRefused : {S : Type 0} (g : Ghosts S) → Image → (Marked : Type 0) → OpenFault → Type 0
IsRefused g image Marked Closed = Marked
IsRefused g image Marked (Store fault) = IsOfStore fault ⊎ IsUnloadedOver g image fault
IsRefused g image Marked (Register fault) = IsOfStoreOr ⊤ fault
IsRefused g image Marked Older = IsOlderOver g image
IsRefused g image Marked Other = IsOfOtherOver g image
