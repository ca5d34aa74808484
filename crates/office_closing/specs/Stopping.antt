-- What a stop of a closing leaves, and that the next call with the same files goes on from there.
use Rattle.std.specs.Prelude.{◌≡◌, ◌⊎◌, true, List, None, Result}
use Rattle.sqlite.specs.{Effect.Database, Tree.Trees}
use Rattle.sqlite_trees.specs.declared.store.Store.{Ghosts}
use Rattle.office_rows.specs.Stored.{HasRows, StoresRows}
use Rattle.office_closing.specs.{Changes.unmarked, Closes.{AreHeld, AreOrderly, Closes, Closing, Held, IsAtStage, IsClosing, IsLeft}, Lists.SettledListContent}
use Rattle.office_closing.specs.{Copies.{ComesOn, FileNames, HasCome, IsOpened, OfficeContent, archive_in, lists_at}, Files.{AreClean, Files, files}}
use Rattle.office_closing.specs.{Sound.IsSound, Steps.is_unraised, Stored.{HasRegister, StoresEither}, Transactions.IsSettled, declared.planning.Stage.Stage}
use Rattle.office_closing.specs.{declared.faults.CloseFault.CloseFault, declared.planning.PutAway.PutAway}
use Rattle.sqlite.specs.Held as connection
use Rattle.office_closing.specs.declared.planning.Stage.TheVariants as stage

-- ---- what is left

-- what is committed of the four files is in memory, and all that a crash leaves
pub record AreSettled (files : Files) : Type 0 where
  pub store : IsSettled files.store
  pub register : IsSettled files.register
  pub archive : IsSettled files.archive
  pub archive_register : IsSettled files.archive_register

-- the four files as they are found after a stop
pub record Left : Type 0 where
  pub store : Trees
  pub register : Trees
  pub archive : Trees
  pub archive_register : Trees

pub record MayBeLeft (files : Files) (left : Left) : Type 0 where
  pub store : files.store.may_leave left.store
  pub register : files.register.may_leave left.register
  pub archive : files.archive.may_leave left.archive
  pub archive_register : files.archive_register.may_leave left.archive_register

-- they have these rows, and these registers
pub record AreStored (held : Held) (left : Left) : Type 0 where
  pub own : StoresRows held.own left.store
  pub register : StoresEither held.register left.register
  pub copy : StoresRows held.copy left.archive
  pub copied : StoresEither held.copied left.archive_register

-- A closing of what was held is on its way: it has come to a stage, and rows are gone only if the register has the archive.
-- The archive's rows are as they were, and its register but for the mark; both registers are sound.
pub record IsOnItsWay (held : Held) (names : FileNames) (left : Held) : Type 0 where
  pub closing : Closing
  pub is_closing : IsClosing held names closing
  pub come : Stage
  pub at : IsAtStage left names closing come
  pub some : IsLeft closing held.own left.own
  pub all : is_unraised come ≡ true → left.own ≡ held.own
  pub copy : left.copy ≡ held.copy
  pub copied : unmarked left.copied ≡ unmarked held.copied
  pub register_sound : IsSound left.register
  pub copied_sound : IsSound left.copied

-- the four files have what they had, or a closing of that is on its way
abbrev pub AreLeft : Held → FileNames → Left → Type 0
AreLeft held names left =
    (again : Held) × AreStored again left × ((again ≡ held) ⊎ IsOnItsWay held names again)

-- ---- how it is found

-- A closing goes on from a stage, whichever lists are found done: the store is no archive, and the registers tell the stage.
-- Once the register has the archive, the lists are those that it has, and it may have them.
pub record GoesOnFrom (own copy : OfficeContent) (names : FileNames) (done : List SettledListContent) (come : Stage)
    : Type 0 where
  pub unclosed : own.register.closed_for ≡ None
  pub has_come : HasCome own copy names (lists_at own (archive_in names.archive copy).place done come) come
  pub comes : come ≡ stage.Raised
      → ComesOn own copy names (lists_at own (archive_in names.archive copy).place done come) come

-- ---- the laws

-- At whatever moment a closing stops, and however it ends, the four files have what they had, or the closing is on its way.
abbrev pub StopsAreOnTheWay : {S R A M : Type 0} → Ghosts S → Ghosts R → Ghosts A → Ghosts M → Type 0
StopsAreOnTheWay {S} {R} {A} {M} s r a m =
    (names : FileNames) (held : Held)
    (store new_store : connection.Held S) (register new_register : connection.Held R)
    (archive new_archive : connection.Held A) (archive_register new_archive_register : connection.Held M)
    (result : Result PutAway CloseFault) (left : Left) →
    AreHeld held (files s r a m store register archive archive_register) →
    AreSettled (files s r a m store register archive archive_register) →
    Closes names (files s r a m store register archive archive_register)
    (files s r a m new_store new_register new_archive new_archive_register) result →
    AreClean (files s r a m new_store new_register new_archive new_archive_register) →
    MayBeLeft (files s r a m new_store new_register new_archive new_archive_register) left
    → AreLeft held names left

-- Where a closing is on its way, the offices of the store and of the archive, as they open, tell the stage from which it goes on.
abbrev pub StoppedClosingsGoOn : Type 0
StoppedClosingsGoOn =
    (held left : Held) (names : FileNames) (way : IsOnItsWay held names left) → AreOrderly held.copy →
    (store register archive archive_register : Database) → HasRegister left.register register →
    HasRows left.copy archive → HasRegister left.copied archive_register →
    (own copy : OfficeContent) → IsOpened store register own → IsOpened archive archive_register copy →
    (done : List SettledListContent)
    → GoesOnFrom own copy names done way.come
