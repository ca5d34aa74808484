-- What a closing of a store does: what it closes, what is left, and what it leaves at a fault and by a crash.
use Rattle.std.specs.Prelude.{◌≡◌, ◌≢◌, ◌⊎◌, [], ◌∷◌, ℕ, ◌+◌, ◌<◌, ◌≤◌, true, Bool, List, Contains, length, map, None, Some, Result, Ok, Err, IfErr, IsTrue, OnErr, OnOk}
use Rattle.std.specs.List.{AllByRecursion, range_with_len}
use Rattle.sqlite.specs.{Effect.Database, State.{KeepsCommit, State, Survives}, Tree.Trees}
use Rattle.terminal_core.specs.{Forms.IsFormedVisit, Rows.VisitContent, State.{AreNumbered, TerminalState, last_number}}
use Rattle.office_rows.specs.{Rows.{Interchange, Partner, Rows}, Shown.AreNexts, Stored.{HasRows, StoresRows}}
use Rattle.office_admission.specs.Setups.{SetupContent}
use Rattle.office_history.specs.After.{AreKeptOnce}
use Rattle.office_loading.specs.Tables.{LoadsOwn}
use Rattle.office_closing.specs.{Going.{GoesAs, IsAmong, MayGo}, declared.register.Segment.Segment, Changes.{closed_with, marked_for, unmarked}, Seals.seals_of}
use Rattle.office_closing.specs.{Lists.{SettledListContent, list_content}, Sound.IsSound, Stored.{HasRegister, StoresRegister}, Transactions.IsSettled}
use Rattle.office_closing.specs.Register.{ArchiveContent, RegisterContent, SealedContent, archive_content, closed_by, last_closed, sealed_content}
use Rattle.office_closing.specs.{declared.faults.CloseFault.CloseFault, declared.faults.File.File, declared.comparing.Numbers.Numbers, Comparing.IsOfEither}
use Rattle.office_closing.specs.{declared.planning.Plan.Plan, declared.planning.PutAway.PutAway, declared.planning.Stage.Stage, Laws.Raises, Steps.IsOfWriting}
use Rattle.office_closing.specs.{Arriving.{HasTexts, StandInOrder}, Copies.{ClosesNone, FileNames, numbers_from, segments_of, taken_of}, Visits.AreToGo}
use Rattle.office_closing.specs.{Deleting.{all_but, goes, is_one_of, with_visits_that, without_visits}, Files.{Files, AreClean, AreIdle, AreRead, IsRead}}
use Rattle.office_closing.specs.Refusing.{HasUnfit, HasUnread, IsFileOf, IsOfOtherTerminal, IsUnopened, IsWhy}
use Rattle.office_parts.specs.{OwnLists.{ListName, rows_without_lists}, Archives.HoldsWhatGoes, LeftOver.rows_without, OwnTerminal.MayStay, Parts.Archived}
use Rattle.office_tables.specs.{Faults.{IsOfStore, IsOfStoreOr}, declared.table_fault.TableFault.TableFault}
use Rattle.office_closing.specs.declared.faults.CloseFault.TheVariants as fault
use Rattle.office_closing.specs.declared.faults.File.TheVariants as file
use Rattle.office_closing.specs.declared.planning.Stage.TheVariants as stage

-- ---- what the files hold before

-- rows as they stand after events: the accounts by their ids from 1, no interchange twice, the visits by number, each in
-- its form
pub record AreOrderly (rows : Rows) : Type 0 where
  pub accounts : map (λ (p : Partner). p.id) rows.partners ≡ range_with_len 1 (length rows.partners)
  pub once : AreKeptOnce rows.interchanges
  pub numbered : AreNumbered 0 rows.visits
  pub formed : (visit : VisitContent) → Contains rows.visits visit → IsFormedVisit visit

-- the rows of the store and of the archive, and what their registers say
pub record Held : Type 0 where
  pub own : Rows
  pub register : RegisterContent
  pub copy : Rows
  pub copied : RegisterContent

pub record AreHeld (held : Held) (files : Files) : Type 0 where
  pub own : HasRows held.own files.store.now
  pub register : HasRegister held.register files.register.now
  pub copy : HasRows held.copy files.archive.now
  pub copied : HasRegister held.copied files.archive_register.now
  pub own_orderly : AreOrderly held.own
  pub copy_orderly : AreOrderly held.copy
  pub register_sound : IsSound held.register
  pub copied_sound : IsSound held.copied

-- the rows have the interchanges of store and archive in the order in which they stand in the tables, that of arrival
pub record AreInTheirOrder (held : Held) (files : Files) : Type 0 where
  pub own : StandInOrder held.own.interchanges (files.store.now.trees 2)
  pub copy : StandInOrder held.copy.interchanges (files.archive.now.trees 2)

-- ---- what is closed

-- the numbers that are closed, the visits that go, the archive, its segments, the lists that the register gets with it,
-- those of them that go, what had been taken, and what is sealed
pub record Closing : Type 0 where
  pub numbers : List Numbers
  pub visits : List ℕ
  pub archive : ArchiveContent
  pub segments : List Segment
  pub lists : List SettledListContent
  pub gone : List SettledListContent
  pub taken : List Segment
  pub sealed : List SealedContent

abbrev pub closing_content : Plan → Closing
closing_content plan = record {
  numbers = plan.numbers.items;
  visits = plan.visits.items;
  archive = archive_content plan.archive;
  segments = plan.segments.items;
  lists = map list_content plan.lists.items;
  gone = map list_content plan.gone.items;
  taken = plan.taken.items;
  sealed = map sealed_content plan.sealed.items;
}

-- the store's register with the archive, the lists, what had been taken and what is sealed
abbrev pub raised_register : Held → Closing → RegisterContent
raised_register held closing =
    closed_with closing.archive closing.segments closing.lists closing.taken closing.sealed (unmarked held.copied)

-- the last numbers that were closed before, as the store's register says, and those that are closed then
abbrev pub closed_before : Held → ℕ → ℕ
closed_before held = last_closed held.register.segments

abbrev pub closed_after : Held → Closing → ℕ → ℕ
closed_after held closing = last_closed (raised_register held closing).segments

-- the number is that of an account, and below its next one
pub record IsBelowNext (rows : Rows) (partner number : ℕ) : Type 0 where
  pub account : Partner
  pub is_one : Contains rows.partners account
  pub is_its : account.id ≡ partner
  pub below : number < account.next

-- All goes that the archive keeps and that may go: of each of its accounts the numbers above the last one that its own register
-- closes and below its next one, and each visit that is over there, as the store has it, but for the newest.
pub record ClosesAll (held : Held) (closing : Closing) : Type 0 where
  pub nexts : List ℕ
  pub are_nexts : AreNexts held.copy nexts
  pub numbers : closing.numbers ≡ numbers_from (last_closed held.copied.segments) 1 nexts
  pub visits : AreToGo held.own.visits held.copy.visits closing.visits

-- the rows open, beyond what is closed, as an office of this set-up
pub record AreOfSetup (rows : Rows) (register : RegisterContent) (setup : SetupContent) : Type 0 where
  pub db : Database
  pub has : HasRows rows db
  pub terminal : TerminalState
  pub loads : LoadsOwn (closed_by register) db setup terminal

-- Lists that go may go, and the register has the text of their lines, as put away with this archive. If it is to get the
-- archive now, all lists go that may, and it gets no others; but none, if no number is closed: by these the register is told
-- apart from what it was.
pub record PutsAway (held : Held) (closing : Closing) : Type 0 where
  pub setup : SetupContent
  pub is_setup : AreOfSetup held.own held.register setup
  pub placed : AllByRecursion (λ (one : SettledListContent). one.archive ≡ closing.archive.place) closing.lists
  pub has : (one : SettledListContent) → Contains closing.gone one → Contains closing.lists one
  pub goes : (one : SettledListContent) → Contains closing.gone one → GoesAs setup held.own one
  pub all : held.register ≡ unmarked held.copied → closing.segments ≢ [] → (list : ListName) →
      MayGo setup held.own list → IsAmong closing.gone list
  pub with_numbers : held.register ≡ unmarked held.copied → closing.segments ≡ [] → closing.lists ≡ []
  pub only : held.register ≡ unmarked held.copied → (one : SettledListContent) → Contains closing.lists one
      → Contains closing.gone one

-- What had been taken is kept with this archive. If the register is to get the archive now, it is all that the store has taken:
-- of each account the numbers below its next one.
pub record KeepsTaken (held : Held) (closing : Closing) : Type 0 where
  pub placed : AllByRecursion (λ (one : Segment). one.archive ≡ closing.archive.place) closing.taken
  pub all : held.register ≡ unmarked held.copied
      → (nexts : List ℕ) × AreNexts held.own nexts × (closing.taken ≡ taken_of closing.archive.place nexts)

-- What is sealed with this archive is what it closes, as it keeps it. If the register is to get the archive now, it
-- gets them, with the terminal's code.
pub record KeepsSeals (held : Held) (closing : Closing) : Type 0 where
  pub setup : SetupContent
  pub is_setup : AreOfSetup held.own held.register setup
  pub right : AllByRecursion (λ (one : SealedContent). (one.archive ≡ closing.archive.place)
      × (one.seals ≡ seals_of held.copy closing.numbers)) closing.sealed
  pub all : held.register ≡ unmarked held.copied
      → closing.sealed ≡ (record {
        archive = closing.archive.place;
        terminal = setup.terminal;
        seals = seals_of held.copy closing.numbers;
      }) ∷ []

-- The archive holds all that goes, and all of that may go: the numbers by which the last closed ones rise, of the archive's
-- register and so of the store's, are below the next of their accounts; the visits are over, and the newest is none of
-- them. Lists go as the register has them. The store's register is sound with the archive, which comes after those that the
-- archive's own register names, with a segment for each account of which it closes numbers; it names those only, or has the
-- archive already. The archive's is sound with the mark.
pub record IsClosing (held : Held) (names : FileNames) (closing : Closing) : Type 0 where
  pub file : closing.archive.file ≡ names.archive
  pub place : closing.archive.place ≡ length held.copied.archives + 1
  pub newest : closing.archive.visits ≡ last_number held.copy.visits
  pub register : (held.register ≡ unmarked held.copied) ⊎ (held.register ≡ raised_register held closing)
  pub segments : closing.segments ≡ segments_of closing.archive.place closing.numbers
  pub all : ClosesAll held closing
  pub sound : IsSound (raised_register held closing)
  pub sound_mark : IsSound (marked_for names.store held.copied)
  pub numbers : Raises (last_closed held.copied.segments) closing.numbers (closed_after held closing)
  pub rise : (partner : ℕ) → closed_before held partner ≤ closed_after held closing partner
  pub below : (partner number : ℕ) → closed_before held partner < number → number ≤ closed_after held closing partner →
      IsBelowNext held.own partner number
  pub holds : (archived : Archived) → archived.last_closed ≡ closed_before held →
      HoldsWhatGoes archived held.own held.copy (closed_after held closing) (all_but closing.visits)
  pub may : MayStay (all_but closing.visits) held.own.visits
  pub lists : PutsAway held closing
  pub taken : KeepsTaken held closing
  pub sealed : KeepsSeals held closing

-- how far a closing has come, by what the registers hold
abbrev pub IsAtStage : Held → FileNames → Closing → Stage → Type 0
IsAtStage held names closing stage.New = (held.register ≡ unmarked held.copied) × (held.copied.closed_for ≡ None)
IsAtStage held names closing stage.Marked =
    (held.register ≡ unmarked held.copied) × (held.copied.closed_for ≡ Some names.store)
IsAtStage held names closing stage.Raised =
    (held.register ≡ raised_register held closing) × (held.copied.closed_for ≡ Some names.store)

-- ---- what is left

-- the rows without all that goes
abbrev pub cleared : Closing → Rows → Rows
cleared closing rows =
    rows_without_lists (is_one_of closing.gone) (without_visits closing.visits (rows_without (goes closing.numbers) rows))

-- the rows without some interchanges, some visits and the lines of some lists of what goes
pub record IsLeft (closing : Closing) (rows left : Rows) : Type 0 where
  pub deleted : Interchange → Bool
  pub only : (i : Interchange) → deleted i ≡ true → goes closing.numbers i ≡ true
  pub kept : ℕ → Bool
  pub stay : (number : ℕ) → all_but closing.visits number ≡ true → kept number ≡ true
  pub away : ListName → Bool
  pub lists : (list : ListName) → away list ≡ true → is_one_of closing.gone list ≡ true
  pub is : left ≡ rows_without_lists away (with_visits_that kept (rows_without deleted rows))

-- All that goes is gone from the store, its register has the archive, and the archive is marked for it. All is committed,
-- and a crash leaves only that.
pub record IsClosed (held : Held) (names : FileNames) (closing : Closing) (new : Files) : Type 0 where
  pub rows : HasRows (cleared closing held.own) new.store.committed
  pub register : HasRegister (raised_register held closing) new.register.committed
  pub mark : HasRegister (marked_for names.store held.copied) new.archive_register.committed
  pub store_settled : IsSettled new.store
  pub register_settled : IsSettled new.register
  pub mark_settled : IsSettled new.archive_register

-- the archive's register is marked for the store, and a crash leaves it so
pub record IsMarkedNow (held : Held) (names : FileNames) (mark : State) : Type 0 where
  pub has : HasRegister (marked_for names.store held.copied) mark.committed
  pub settled : IsSettled mark

-- the register has the archive of a closing, which is marked
pub record HasArchive (held : Held) (names : FileNames) (closing : Closing) (new : Files) : Type 0 where
  pub is_closing : IsClosing held names closing
  pub has : HasRegister (raised_register held closing) new.register.committed
  pub settled : IsSettled new.register
  pub marked : IsMarkedNow held names new.archive_register

-- the store, while its connection is open, has its rows, or the register has the archive and some of what goes is gone
abbrev pub HasRowsLeft : Held → FileNames → Files → Type 0
HasRowsLeft held names new =
    HasRows held.own new.store.committed
    ⊎ ((closing : Closing) × (left : Rows) × HasArchive held names closing new × IsLeft closing held.own left
    × HasRows left new.store.committed)

-- Where a closing stopped, while the connections are open: the store's register has the archive only once that is marked.
pub record IsStopped (held : Held) (names : FileNames) (new : Files) : Type 0 where
  pub store : IsTrue new.store.is_open → HasRowsLeft held names new
  pub register : IsTrue new.register.is_open →
      HasRegister held.register new.register.committed
      ⊎ ((closing : Closing) × IsClosing held names closing
      × HasRegister (raised_register held closing) new.register.committed × IsMarkedNow held names new.archive_register)
  pub mark : IsTrue new.archive_register.is_open →
      HasRegister held.copied new.archive_register.committed
      ⊎ HasRegister (marked_for names.store held.copied) new.archive_register.committed

-- ---- what was put away

-- the numbers that it closes, and how many visits and lists go
pub record IsOfClosing (closing : Closing) (away : PutAway) : Type 0 where
  pub numbers : away.numbers.items ≡ closing.numbers
  pub visits : away.visits ≡ length closing.visits
  pub lists : away.lists ≡ length closing.gone

-- so of a closing of what the files held
abbrev pub ArePutAway : FileNames → Files → PutAway → Type 0
ArePutAway names old away =
    (held : Held) → AreHeld held old → (closing : Closing) × IsClosing held names closing × IsOfClosing closing away

-- ---- what a crash leaves

-- of the store: its register has the archive, and some of what goes is gone
abbrev pub StoresLeftRows : FileNames → Files → Files → Trees → Type 0
StoresLeftRows names old new db =
    (held : Held) → AreHeld held old →
    (closing : Closing) × (left : Rows) × HasArchive held names closing new × IsLeft closing held.own left
    × StoresRows left db

-- of its register: the archive is in it, which is marked by then
abbrev pub StoresRaised : FileNames → Files → Files → Trees → Type 0
StoresRaised names old new db =
    (held : Held) → AreHeld held old →
    (closing : Closing) × IsClosing held names closing × StoresRegister (raised_register held closing) db
    × IsMarkedNow held names new.archive_register

-- of the archive's register: it is marked for the store, and was not marked before
abbrev pub StoresMarked : FileNames → Files → Trees → Type 0
StoresMarked names old db =
    (held : Held) → AreHeld held old →
    (closing : Closing) × IsClosing held names closing × IsAtStage held names closing stage.New
    × StoresRegister (marked_for names.store held.copied) db

-- ---- faults

-- what a fault says of its file: why the office in it does not open, or texts that wait in the store are not read; a register
-- is sound
abbrev pub IsFaultIn : Held → Files → File → TableFault → Type 0
IsFaultIn held files file.Store fault =
    IsUnopened held.register held.own files.store.now fault ⊎ IsOfStoreOr (HasUnread held.own) fault
IsFaultIn held files file.Register fault = IsOfStoreOr (IsOfOtherTerminal held.register files.store.now) fault
IsFaultIn held files file.Archive fault = IsUnopened held.copied held.copy files.archive.now fault
IsFaultIn held files file.ArchiveRegister fault = IsOfStoreOr (IsOfOtherTerminal held.copied files.archive.now) fault

-- What a fault tells: why the archive is refused; what a file has that can't be read; of the store or of the archive, where they
-- were compared, that it failed or has a reply that is no text.
abbrev pub Tells : Held → FileNames → Files → CloseFault → Type 0
Tells held names files (fault.Archive why) =
    IsWhy held.register held.copied held.own held.copy names files why
Tells held names files (fault.File of) = IsFaultIn held files of.file of.fault
Tells held names files (fault.Comparing of) = IsOfEither (HasUnfit held.own) (HasUnfit held.copy) of
Tells held names files fault.Memory = Unit {0}

-- where a fault of that file stops a closing that writes: the archive is not marked; or it is, and the store's register does not
-- have it; or that has it, and not all is deleted
abbrev pub IsStoppedBy : Held → FileNames → (old new : Files) → File → Type 0
IsStoppedBy held names old new file.ArchiveRegister =
    KeepsCommit old.store new.store × KeepsCommit old.register new.register
IsStoppedBy held names old new file.Register =
    KeepsCommit old.store new.store × IsMarkedNow held names new.archive_register
IsStoppedBy held names old new file.Store = (closing : Closing) × HasArchive held names closing new
IsStoppedBy held names old new file.Archive = ⊥

-- the archive is refused, or a file is damaged or of another version
abbrev pub IsBeforehand : CloseFault → Type 0
IsBeforehand (fault.Archive why) = Unit {0}
IsBeforehand (fault.File of) = ¬ IsOfStore of.fault
IsBeforehand (fault.Comparing of) = Unit {0}
IsBeforehand fault.Memory = Unit {0}

-- ---- the order of arrival

-- What the archive has beyond what the store's register closes, closed now or waiting, is the first of what the store has so.
-- It is all of it if the closing begins and closes no number: else some of what an archive before it has would be told twice.
abbrev pub HasItsTexts : Held → Type 0
HasItsTexts held =
    HasTexts (ClosesNone held.register held.copied held.copy) (closed_before held) held.own held.copy

-- that was found before anything was written
abbrev pub FindsTexts : {T : Type 0} → (old new : Files) → Held → Result T CloseFault → Type 0
FindsTexts old new held (Ok closed) = HasItsTexts held
FindsTexts old new held (Err why) = AreRead {T = Unit {0}} old new (Err why) ⊎ HasItsTexts held

-- ---- the whole

-- At Ok the store is closed. At a fault it is stopped somewhere, and before anything was written if the archive was refused
-- or a file damaged. What the fault tells is so, and it names the file that was to be written. A crash leaves of each file what
-- it left before, or what these say. The archive's rows stay as they are.
pub record Closes {T : Type 0} (names : FileNames) (old new : Files) (result : Result T CloseFault) : Type 0 where
  pub idle : AreIdle new
  pub ok : AreClean new → OnOk result ((held : Held) → AreHeld held old →
      (closing : Closing) × IsClosing held names closing × IsClosed held names closing new)
  pub err : AreClean new → OnErr result ((held : Held) → AreHeld held old → IsStopped held names new)
  pub untouched : IfErr result (λ fault. IsBeforehand fault → AreRead old new result)
  pub tells : AreClean new → IfErr result (λ fault. (held : Held) → AreHeld held old → Tells held names old fault)
  pub stopped : AreClean new → IfErr result (λ fault. (held : Held) → AreHeld held old →
      AreRead old new result
      ⊎ ((file : File) × IsFileOf file fault × IsOfWriting fault × IsStoppedBy held names old new file))
  pub texts : AreClean new → (held : Held) → AreHeld held old → AreInTheirOrder held old →
      FindsTexts old new held result
  pub store : AreClean new → Survives old.store new.store (StoresLeftRows names old new)
  pub register : AreClean new → Survives old.register new.register (StoresRaised names old new)
  pub mark : AreClean new → Survives old.archive_register new.archive_register (StoresMarked names old)
  pub archive : IsRead old.archive new.archive result
