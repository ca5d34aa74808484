-- Why an archive is refused, and a file can't be read.
use Rattle.std.specs.Prelude.{◌≡◌, ◌≢◌, ◌⊎◌, ◌+◌, ◌<◌, ℕ, Contains, List, length, false, true}
use Rattle.sqlite.specs.Effect.{Database}
use Rattle.office_admission.specs.{Limits.most_partners, Setups.SetupContent}
use Rattle.office_rows.specs.{Rows.Rows, Shown.AreNexts}
use Rattle.terminal_core.specs.State.{TerminalState}
use Rattle.office_loading.specs.Tables.{FailsToLoadOwn, HasHighNext, LoadsOwn}
use Rattle.office_tables.specs.{Answers.HasUnfitReply, Faults.{IsOfStore, IsOfStoreOr}, declared.table_fault.TableFault.TableFault}
use Rattle.office_tables.specs.declared.table_fault.TableFault.TheVariants.{Damaged}
use Rattle.office_closing.specs.{declared.faults.File.File, declared.faults.CloseFault.CloseFault, declared.faults.Refusal.Refusal, Seals.seals_of, Files.Files}
use Rattle.office_closing.specs.{Arriving.{HasTexts, StandInOrder}, Comparing.{IsOfEither, IsToldAlike}, Waiting.HasWaiting}
use Rattle.office_closing.specs.Copies.{ClosesNone, FileNames, IsOpened, IsReason, OfficeContent, numbers_from}
use Rattle.office_closing.specs.Register.{RegisterContent, SealedContent, closed_by, is_newer_than, is_of_terminal, last_closed}
use Rattle.office_closing.specs.declared.faults.CloseFault.TheVariants as fault
use Rattle.office_closing.specs.declared.faults.Refusal.TheVariants as refusal

-- ---- a file that can't be read

-- the fault is of that file
abbrev pub IsFileOf : File → CloseFault → Type 0
IsFileOf file (fault.Archive why) = ⊥
IsFileOf file (fault.File of) = of.file ≡ file
IsFileOf file (fault.Comparing of) = ⊥
IsFileOf file fault.Memory = ⊥

-- the fault is of that file, and this is said of it; or memory was refused
abbrev pub IsOfThis : File → (TableFault → Type 0) → CloseFault → Type 0
IsOfThis file Is (fault.Archive why) = ⊥
IsOfThis file Is (fault.File of) = (of.file ≡ file) × Is of.fault
IsOfThis file Is (fault.Comparing of) = ⊥
IsOfThis file Is fault.Memory = Unit {0}

-- the rows are of a day before their register: a number had been taken then that they still await
abbrev pub AreOlder : RegisterContent → Rows → Type 0
AreOlder register rows = (nexts : List ℕ) × AreNexts rows nexts × (is_newer_than nexts register ≡ true)

-- a register is of another terminal's store: Damaged
abbrev pub IsOfOther : (terminal : List ℕ) → RegisterContent → TableFault → Type 0
IsOfOther terminal register fault = (fault ≡ Damaged) × (is_of_terminal terminal register ≡ false)

-- why the next numbers are not those of an office beside its register: one has more than 32 bits, or the rows are older
abbrev pub HaveNoNexts : RegisterContent → Rows → Type 0
HaveNoNexts register rows = HasHighNext rows.partners ⊎ AreOlder register rows

-- Why an office does not open: its rows make none beyond what its register closes, or are of another version; or the next
-- numbers of its accounts are not those beside this register.
abbrev pub IsUnopened : RegisterContent → Rows → Database → TableFault → Type 0
IsUnopened register rows db fault =
    FailsToLoadOwn (closed_by register) db fault ⊎ IsOfStoreOr (HaveNoNexts register rows) fault

-- the office in a database, beyond what a register closes, is of another terminal than the register
abbrev pub IsOfOtherTerminal : RegisterContent → Database → Type 0
IsOfOtherTerminal register db =
    (setup : SetupContent) × (terminal : TerminalState) × LoadsOwn (closed_by register) db setup terminal
    × (is_of_terminal setup.terminal register ≡ false)

-- the same, of the file with its rows; or the file of its sound register could not be read, or is of another terminal's store
abbrev pub IsOfOpening : (rows_in register_in : File) → RegisterContent → Rows → Database → CloseFault → Type 0
IsOfOpening rows_in register_in register rows db why =
    IsOfThis register_in (IsOfStoreOr (IsOfOtherTerminal register db)) why ⊎ IsOfThis rows_in (IsUnopened register rows db) why

-- why texts that wait are not read: there are more accounts than may be, or such a text is damaged
abbrev pub HasUnread : Rows → Type 0
HasUnread rows = (most_partners < length rows.partners) ⊎ HasWaiting rows

-- ---- an archive that is refused

-- the offices in the files, as they open, give this reason
pub record HasReason (names : FileNames) (files : Files) (why : Refusal) : Type 0 where
  pub own : OfficeContent
  pub copy : OfficeContent
  pub own_opens : IsOpened files.store.now files.register.now own
  pub copy_opens : IsOpened files.archive.now files.archive_register.now copy
  pub is_reason : IsReason own copy names why

-- where the tables have the interchanges in this order, those of the archive beyond what is closed are not the first of the
-- store's, or not all of them, though that is wanted
abbrev pub IsOutOfOrder : (wants_all : Type 0) (last_closed : ℕ → ℕ) → (own copy : Rows) → (store archive : Database) →
    Type 0
IsOutOfOrder wants_all last_closed own copy store archive =
    StandInOrder own.interchanges (store.trees 2) → StandInOrder copy.interchanges (archive.trees 2)
    → ¬ HasTexts wants_all last_closed own copy

-- the store's register has the archive, and has sealed something else with it than it keeps of what it closes
abbrev pub HasOtherSeals : (register copied : RegisterContent) → (copy : Rows) → Type 0
HasOtherSeals register copied copy =
    (one : SealedContent) × Contains register.sealed one × (one.archive ≡ length copied.archives + 1)
    × (nexts : List ℕ) × AreNexts copy nexts
    × (one.seals ≢ seals_of copy (numbers_from (last_closed copied.segments) 1 nexts))

-- why the archive is refused: it tells another text or reply under that number; its texts are not the first of the store's,
-- beyond what the store's register closes, or not all, though it closes no number; the store's register has it with other seals;
-- or the offices give the reason
abbrev pub IsWhy : (register copied : RegisterContent) → (own copy : Rows) → FileNames → Files → Refusal → Type 0
IsWhy register copied own copy names files (refusal.Interchange difference) =
    ¬ IsToldAlike difference.partner difference.number own copy
IsWhy register copied own copy names files refusal.Order =
    IsOutOfOrder (ClosesNone register copied copy) (last_closed register.segments) own copy files.store.now
    files.archive.now
IsWhy register copied own copy names files refusal.Seals = HasOtherSeals register copied copy
IsWhy register copied own copy names files why = HasReason names files why

-- a reply is no text
abbrev pub HasUnfit : Rows → Type 0
HasUnfit rows = (partner : ℕ) × (number : ℕ) × HasUnfitReply partner number rows

-- ---- where they are compared

-- the archive tells another text or reply under that number, and is refused for nothing else
abbrev pub IsOtherwise : (own copy : Rows) → Refusal → Type 0
IsOtherwise own copy (refusal.Interchange difference) =
    ¬ IsToldAlike difference.partner difference.number own copy
IsOtherwise own copy why = ⊥

-- the archive is refused so, or one of the two failed or has a reply that is no text
abbrev pub IsOfComparing : (own copy : Rows) → CloseFault → Type 0
IsOfComparing own copy (fault.Archive why) = IsOtherwise own copy why
IsOfComparing own copy (fault.File of) = ⊥
IsOfComparing own copy (fault.Comparing of) = IsOfEither (HasUnfit own) (HasUnfit copy) of
IsOfComparing own copy fault.Memory = ⊥

-- ---- where their order is compared

-- the archive is refused for its order, or one of the two failed
abbrev pub IsOfOrdering : (wants_all : Type 0) (last_closed : ℕ → ℕ) → (own copy : Rows) → (store archive : Database) →
    CloseFault → Type 0
IsOfOrdering wants_all last_closed own copy store archive (fault.Archive refusal.Order) =
    IsOutOfOrder wants_all last_closed own copy store archive
IsOfOrdering wants_all last_closed own copy store archive (fault.Archive why) = ⊥
IsOfOrdering wants_all last_closed own copy store archive (fault.File of) = ⊥
IsOfOrdering wants_all last_closed own copy store archive (fault.Comparing of) = IsOfEither ⊥ ⊥ of
IsOfOrdering wants_all last_closed own copy store archive fault.Memory = Unit {0}
