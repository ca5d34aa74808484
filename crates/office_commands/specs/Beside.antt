-- A store that is opened on its files, beside its archives.
use Rattle.std.specs.Prelude.{◌≡◌, ℕ, true, false, List, [], Ok, IfSome, IsTrue}
use Rattle.sqlite.specs.{Files.HoldsDatabase, Held.{Held, state}, Recovery.Image, State.HasCleanDisk, Tree.Trees}
use Rattle.sqlite_trees.specs.declared.store.Store.{Ghosts}
use Rattle.office_replies.specs.Events.{Event}
use Rattle.office_loading.specs.{Closed.{ClosedContent, closed_content, nothing_closed}, Tables.LoadsOwn}
use Rattle.terminal_core.specs.State.{TerminalState}
use Rattle.office_rows.specs.{Rows.Rows, Shown.AreNexts, Stored.HasRows, Tables.office_schema}
use Rattle.office_tables.specs.Reading.{Reads}
use Rattle.office_admission.specs.{Given.IsGiven, Setups.{SetupContent, setup_content}}
use Rattle.office_closing.specs.{Register.{RegisterContent, closed_by, is_newer_than, is_of_terminal}, Sound.is_sound}
use Rattle.office_history.specs.After.{AreAfter}
use Rattle.office_desk.specs.{Desks.{IsSound, OpensAt}, Offices.OpensOffice, declared.beside.Beside.Beside, declared.desk.Desk.Desk}
use Rattle.office_parts.specs.Archives.{Archive}
use Rattle.office_archives.specs.{Opening.OpensBeside, Shelves.NamesAll, Together.{IsBesideAfter, LeavesBeside}}
use Rattle.office_commands.specs.Opening.{BeginsAt, HoldsTables, OpensOver}

-- the files hold the rows that a store has: with what these archives hold they are parts of the rows after those events
pub record HoldsBeside (image : Image) (list : List Archive) (closed : ClosedContent) (content : SetupContent)
    (es : List Event) : Type 0 where
  pub db : Trees
  pub held : ∥ HoldsDatabase image db ∥₁
  pub beside : IsBesideAfter list closed content es db

-- This holds after whatever events, if the files held what is left of the rows, and the archives of the office as it was opened
-- are those that hold the rest.
abbrev pub IfHeld : {S A : Type 0} {g : Ghosts S} (are : List Archive → A → Type 0) → Image → (opened : Desk S g × A) →
    (List Archive → SetupContent → List Event → Type 0) → Type 0
IfHeld are image opened holds =
    (list : List Archive) (content : SetupContent) (es : List Event) → IsGiven content →
    HoldsBeside image list (closed_content opened.0.closed) content es → are list opened.1 → holds list content es

-- An office was loaded by a connection that was found so and was only read: these are its set-up and its terminal, if the tables are those of an
-- office beyond what is closed, and its partners' next numbers.
pub record IsLoaded {S : Type 0} (g : Ghosts S) (found conn : Held S) (closed : ClosedContent) (setup : SetupContent)
    (there : Beside) : Type 0 where
  pub reads : Reads {T = Unit {0}} (state g found) (state g conn) (Ok tt)
  pub loads : HasCleanDisk (state g conn) → (state g found).committed.schema ≡ office_schema →
      LoadsOwn closed (state g found).committed setup there.terminal
  pub nexts : HasCleanDisk (state g conn) → (rows : Rows) → HasRows rows (state g found).committed →
      AreNexts rows there.nexts.items

-- of whatever office's tables the files held, beyond what is closed, that is the set-up
abbrev pub IsSetUpHeld : Image → ClosedContent → SetupContent → Type 0
IsSetUpHeld image closed setup =
    (db : Trees) → HoldsTables image db →
    (terminal : TerminalState) × LoadsOwn closed (record { schema = office_schema; trees = db }) setup terminal

-- whatever rows of an office the files held, they are of no day before that register, by their partners' next numbers
abbrev pub IsOfDayHeld : Image → RegisterContent → Type 0
IsOfDayHeld image names =
    (db : Trees) (rows : Rows) → HoldsTables image db → HasRows rows (record { schema = office_schema; trees = db }) →
    (nexts : List ℕ) × AreNexts rows nexts × (is_newer_than nexts names ≡ false)

-- A desk was opened over that connection: if it is sound, the disk was clean, the desk is over the office that the tables show,
-- and a crash leaves what is committed.
pub record IsOpenedOver {S : Type 0} (g : Ghosts S) (found : Held S) (desk : Desk S g) : Type 0 where
  pub clean : IsSound g desk → HasCleanDisk (state g found)
  pub office : IsSound g desk → (state g found).committed.schema ≡ office_schema → OpensOffice g (state g found) desk
  pub settled : IsSound g desk → (db : Trees) → (state g desk.conn).may_leave db → db ≡ (state g desk.conn).committed.trees

-- It was opened of a store of which nothing was put away: on the rows after some events it goes on from them.
pub record IsOpenedWhole {S : Type 0} (g : Ghosts S) (found : Held S) (desk : Desk S g) : Type 0 where
  pub over : IsOpenedOver g found desk
  pub closed : closed_content desk.closed ≡ nothing_closed
  pub events : IsSound g desk → (content : SetupContent) (es : List Event) (rows : Rows) → IsGiven content →
      HasRows rows (state g found).committed → AreAfter content es rows → OpensAt g content es desk

module _ {S : Type 0} (g : Ghosts S) where
  -- For an opening set-up that says the same, the desk stands beside these archives after those events, and a crash leaves the
  -- rows that the store has.
  pub record OpensFor (list : List Archive) (content : SetupContent) (es : List Event) (desk : Desk S g) : Type 0 where
    pub opens : OpensBeside g list content es desk
    pub leaves : LeavesBeside list (closed_content desk.closed) opens.opening es (state g desk.conn)

  -- A desk was opened on those files: from whatever events they held what is left of the rows, with whatever archives hold the
  -- rest, it stands beside these after them; and it is over the rows of any office that they held.
  pub record OpensOn (image : Image) (desk : Desk S g) : Type 0 where
    pub beside : IsSound g desk → (list : List Archive) (content : SetupContent) (es : List Event) → IsGiven content →
        HoldsBeside image list (closed_content desk.closed) content es → OpensFor list content es desk
    pub office : IsSound g desk → (db : Trees) → HoldsTables image db → OpensOver g db desk

-- A store of which nothing was put away was opened on those files: it goes on from whatever events they held the rows.
pub record IsAlone {S A : Type 0} {g : Ghosts S} (are : List Archive → A → Type 0) (image : Image) (opened : Desk S g × A)
    : Type 0 where
  pub none : are [] opened.1
  pub closed : closed_content opened.0.closed ≡ nothing_closed
  pub events : IsSound g opened.0 → (content : SetupContent) (es : List Event) → BeginsAt image content es →
      OpensAt g content es opened.0

-- the desk's store is of no day before that register, by its partners' next numbers
abbrev pub IsOfDay : {S : Type 0} {g : Ghosts S} → RegisterContent → Desk S g → Type 0
IsOfDay names desk = IfSome desk.beside (λ there. is_newer_than there.nexts.items names ≡ false)

-- the desk's store is of the terminal whose archives that register names
abbrev pub IsOfTerminal : {S : Type 0} {g : Ghosts S} → RegisterContent → Desk S g → Type 0
IsOfTerminal names desk = is_of_terminal (setup_content desk.setup).terminal names ≡ true

-- A store was opened on those files, and its archives are those that a sound register names, which says what is closed of it:
-- whichever these are, if their files hold what they are supposed to. It is of no day before that, and of no other terminal. If it
-- names none, nothing was put away.
pub record OpensWith {S A : Type 0} (g : Ghosts S) (hold : List Archive → Type 0) (are : List Archive → A → Type 0)
    (image : Image) (names : RegisterContent) (opened : Desk S g × A) : Type 0 where
  pub opens : OpensOn g image opened.0
  pub sound : IsTrue (is_sound names)
  pub closed : closed_content opened.0.closed ≡ closed_by names
  pub of_day : IsOfDay names opened.0
  pub of_terminal : IsOfTerminal names opened.0
  pub these : (list : List Archive) → hold list → NamesAll names list → are list opened.1
  pub alone : names.archives ≡ [] → IsAlone are image opened

-- this came of a store as it was opened, with its archives
pub record FromOpened {S A : Type 0} (g : Ghosts S) (hold : List Archive → Type 0) (are : List Archive → A → Type 0)
    (image : Image) (Came : Desk S g × A → Type 0) : Type 0 where
  pub names : RegisterContent
  pub opened : Desk S g × A
  pub is : OpensWith g hold are image names opened
  pub came : Came opened

-- The archives on the shelf beside a store as it was opened are those that are supposed; the register that names them is sound
-- and says what is closed of the store, which is of no day before it, and of no other terminal.
pub record IsBesideShelf {S F : Type 0} {g : Ghosts S} (hold : List Archive → Type 0) (holds : List Archive → F → Type 0)
    (names : RegisterContent) (opened : Desk S g) (shelf : F) : Type 0 where
  pub sound : IsTrue (is_sound names)
  pub closed : closed_content opened.closed ≡ closed_by names
  pub of_day : IsOfDay names opened
  pub of_terminal : IsOfTerminal names opened
  pub these : (list : List Archive) → hold list → holds list shelf
