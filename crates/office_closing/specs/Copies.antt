-- Which archives are copies of a store, of an earlier day or of the same, and what they close.
use Rattle.std.specs.Prelude.{◌≡◌, ◌≢◌, ℕ, ◌+◌, ◌-◌, ◌≤◌, ◌==◌, ◌++◌, Bool, false, nat_lt, List, [], ◌∷◌, length, map, filter, None, Some, IsTrue}
use Rattle.sqlite.specs.Effect.{Database}
use Rattle.terminal_core.specs.State.{TerminalState, last_number}
use Rattle.office_admission.specs.{Limits.most_partners, Setups.{SetupContent, setup_content}}
use Rattle.office_rows.specs.{ByKey.{AreListedOnce, lines_by}, Rows.{ListingContent, Rows}, Shown.AreNexts, Stored.HasRows, Tables.office_schema}
use Rattle.office_loading.specs.Tables.{LoadsOwn}
use Rattle.office_closing.specs.{Going.AreDone, declared.register.Segment.Segment, Changes.{closed_with, unmarked}, Lists.SettledListContent, Visits.IsCauseOf}
use Rattle.office_closing.specs.Register.{ArchiveContent, RegisterContent, SealedContent, register_content, last_closed, closed_by, is_newer_than, is_of_terminal}
use Rattle.office_closing.specs.{Sound.{is_sound, is_file_name, IsSound}, Stored.HasRegister, declared.faults.Refusal.Refusal, declared.planning.Opened.Opened}
use Rattle.office_closing.specs.{declared.comparing.Numbers.Numbers, declared.planning.Stage.Stage, declared.visits.VisitFault.TheVariants.Differs}
use Rattle.office_parts.specs.OwnLists.{ListName}
use Rattle.office_closing.specs.declared.faults.Refusal.TheVariants as refusal
use Rattle.office_closing.specs.declared.planning.Stage.TheVariants as stage

-- ---- what is opened

-- what a store or an archive has: its set-up with the accounts, their next numbers by id, its terminal and its register
pub record OfficeContent : Type 0 where
  pub setup : SetupContent
  pub nexts : List ℕ
  pub terminal : TerminalState
  pub register : RegisterContent

abbrev pub office_content : Opened → OfficeContent
office_content opened = record {
  setup = setup_content opened.setup;
  nexts = opened.nexts.items;
  terminal = opened.terminal;
  register = register_content opened.register;
}

-- the one database has this office beyond what is closed, and the other this register, which is of this terminal and of no later
-- day
pub record IsOpened (db register : Database) (content : OfficeContent) : Type 0 where
  pub sound : IsTrue (is_sound content.register)
  pub registered : (held : RegisterContent) → HasRegister held register → IsSound held → content.register ≡ held
  pub loaded : db.schema ≡ office_schema →
      LoadsOwn (closed_by content.register) db content.setup content.terminal
  pub nexts : (rows : Rows) → HasRows rows db → AreNexts rows content.nexts
  pub of_day : is_newer_than content.nexts content.register ≡ false
  pub of_terminal : IsTrue (is_of_terminal content.setup.terminal content.register)

-- ---- what an archive closes

-- of each account the numbers above its last one that was closed before, and below its next; from this id on
abbrev pub numbers_from : (last_closed : ℕ → ℕ) → ℕ → List ℕ → List Numbers
numbers_from last_closed id [] = []
numbers_from last_closed id (next ∷ nexts) =
    (record { partner = id; from = last_closed id; to = next - 1 }) ∷ numbers_from last_closed (id + 1) nexts

abbrev pub numbers_of : OfficeContent → List Numbers
numbers_of copy = numbers_from (last_closed copy.register.segments) 1 copy.nexts

abbrev pub closes_some : Numbers → Bool
closes_some numbers = nat_lt numbers.from numbers.to

abbrev pub segment_of : ℕ → Numbers → Segment
segment_of place numbers = record { partner = numbers.partner; archive = place; last = numbers.to }

-- the segments of an archive that closes these numbers
abbrev pub segments_of : ℕ → List Numbers → List Segment
segments_of place numbers = map (segment_of place) (filter closes_some numbers)

-- the archive in this file, as the store's register is to name it: after those that its own register names
abbrev pub archive_in : List ℕ → OfficeContent → ArchiveContent
archive_in file copy = record {
  place = length copy.register.archives + 1;
  file = file;
  visits = last_number copy.terminal.visits;
}

-- and its segments
abbrev pub segments_in : List ℕ → OfficeContent → List Segment
segments_in file copy = segments_of (archive_in file copy).place (numbers_of copy)

-- the store's register with this archive, the lists that are put away with it, what the store had taken, and what is sealed
abbrev pub raised_by : List ℕ → List SettledListContent → List Segment → List SealedContent → OfficeContent →
    RegisterContent
raised_by file lists taken sealed copy =
    closed_with (archive_in file copy) (segments_in file copy) lists taken sealed (unmarked copy.register)

-- ---- what was taken

-- all that an office with these next numbers has taken, as an archive is closed
abbrev pub taken_of : (archive : ℕ) → (nexts : List ℕ) → List Segment
taken_of archive nexts = segments_of archive (numbers_from (λ partner. 0) 1 nexts)

abbrev pub is_with : ℕ → Segment → Bool
is_with archive segment = segment.archive == archive

-- what the store's register gets as taken with an archive: all that the store has taken, or what it has with it already
abbrev pub taken_at : OfficeContent → (archive : ℕ) → Stage → List Segment
taken_at own archive stage.New = taken_of archive own.nexts
taken_at own archive stage.Marked = taken_of archive own.nexts
taken_at own archive stage.Raised = filter (is_with archive) own.register.taken

-- ---- what is sealed

abbrev pub is_sealed_with : ℕ → SealedContent → Bool
is_sealed_with archive sealed = sealed.archive == archive

-- what is sealed with an archive by these seals
abbrev pub sealed_by : OfficeContent → (archive : ℕ) → (seals : List ℕ) → List SealedContent
sealed_by own archive seals = (record { archive = archive; terminal = own.setup.terminal; seals = seals }) ∷ []

-- the same, or what the store's register has with it already
abbrev pub sealed_at : OfficeContent → (archive : ℕ) → (seals : List ℕ) → Stage → List SealedContent
sealed_at own archive seals stage.New = sealed_by own archive seals
sealed_at own archive seals stage.Marked = sealed_by own archive seals
sealed_at own archive seals stage.Raised = filter (is_sealed_with archive) own.register.sealed

-- by the registers and the archive's rows a closing begins with the archive, and closes no number
pub record ClosesNone (register copied : RegisterContent) (copy : Rows) : Type 0 where
  pub begins : register ≡ unmarked copied
  pub nexts : List ℕ
  pub are_nexts : AreNexts copy nexts
  pub none : filter closes_some (numbers_from (last_closed copied.segments) 1 nexts) ≡ []

-- ---- lists

-- Lists go only with numbers, since by these a register is told apart from the one before it: with an archive that has no
-- segment there are none, and else those that are done and not among those named.
abbrev pub GoWith : List Segment → List ListingContent → (named : List ListName) → (archive : ℕ) →
    (found : List SettledListContent) → Type 0
GoWith [] lines named archive found = found ≡ []
GoWith (segment ∷ segments) lines named archive found = AreDone lines named archive found

-- the lists of this terminal that go with an archive of these segments, each as put away with it
pub record AreDoneIn (terminal : TerminalState) (named : List ListName) (segments : List Segment) (archive : ℕ)
    (found : List SettledListContent) : Type 0 where
  pub lines : List ListingContent
  pub once : AreListedOnce lines
  pub by_key : lines_by lines ≡ terminal.lines
  pub are : GoWith segments lines named archive found

abbrev pub is_put_away_with : ℕ → SettledListContent → Bool
is_put_away_with archive list = list.archive == archive

-- the lists that are put away with an archive: those that are done, or those that the store's register has with it already
abbrev pub lists_at : OfficeContent → (archive : ℕ) → (done : List SettledListContent) → Stage → List SettledListContent
lists_at own archive done stage.New = done
lists_at own archive done stage.Marked = done
lists_at own archive done stage.Raised = filter (is_put_away_with archive) own.register.lists

-- ---- copies

-- the names of the files of the store and of the archive
pub record FileNames : Type 0 where
  pub store : List ℕ
  pub archive : List ℕ

-- these are the first of those
abbrev pub AreFirst : {A : Type 0} → List A → List A → Type 0
AreFirst {A} xs ys = (rest : List A) × (ys ≡ xs ++ rest)

-- the same terminal, and the first of its accounts, which are as many as may be
pub record IsSameOffice (own copy : OfficeContent) : Type 0 where
  pub terminal : copy.setup.terminal ≡ own.setup.terminal
  pub accounts : AreFirst copy.setup.partners own.setup.partners
  pub few : length copy.nexts ≤ most_partners

-- each of these numbers is at most the one at its place there
abbrev pub AreAtMost : List ℕ → List ℕ → Type 0
AreAtMost [] others = Unit {0}
AreAtMost (n ∷ numbers) [] = ⊥
AreAtMost (n ∷ numbers) (m ∷ others) = (n ≤ m) × AreAtMost numbers others

-- no next number is above the store's, and no visit newer than the store's newest
pub record IsNoLater (own copy : OfficeContent) : Type 0 where
  pub nexts : AreAtMost copy.nexts own.nexts
  pub visits : last_number copy.terminal.visits ≤ last_number own.terminal.visits

-- how far the closing has come, as the registers tell: nothing was done; the archive is marked for the store; the store's
-- register has the archive
abbrev pub HasCome : OfficeContent → OfficeContent → FileNames → List SettledListContent → Stage → Type 0
HasCome own copy names lists stage.New =
    (unmarked copy.register ≡ own.register) × (copy.register.closed_for ≡ None)
HasCome own copy names lists stage.Marked =
    (unmarked copy.register ≡ own.register) × (copy.register.closed_for ≡ Some names.store)
HasCome own copy names lists stage.Raised =
    (raised_by names.archive lists (taken_at own (archive_in names.archive copy).place stage.Raised)
    (sealed_at own (archive_in names.archive copy).place [] stage.Raised) copy ≡ own.register)
    × (copy.register.closed_for ≡ Some names.store)

-- the store's register may have the archive and these, and the archive's be marked
pub record MayBeRaised (copy : OfficeContent) (names : FileNames) (lists : List SettledListContent)
    (taken : List Segment) (sealed : List SealedContent) : Type 0 where
  pub raised : IsTrue (is_sound (raised_by names.archive lists taken sealed copy))
  pub mark : IsTrue (is_file_name names.store)

-- the archive is of the store's terminal and of no later day, and the store no archive itself
pub record IsOfStore (own copy : OfficeContent) : Type 0 where
  pub unclosed : own.register.closed_for ≡ None
  pub office : IsSameOffice own copy
  pub no_later : IsNoLater own copy

-- the closing has come so far, with these lists, and may go on, with whatever seals
pub record ComesOn (own copy : OfficeContent) (names : FileNames) (lists : List SettledListContent) (come : Stage)
    : Type 0 where
  pub has_come : HasCome own copy names lists come
  pub may : MayBeRaised copy names lists (taken_at own (archive_in names.archive copy).place come)
      (sealed_at own (archive_in names.archive copy).place [] come)

-- the archive is a copy of the store, and the closing has come so far
pub record IsCopy (own copy : OfficeContent) (names : FileNames) (lists : List SettledListContent) (come : Stage)
    : Type 0 where
  pub of_store : IsOfStore own copy
  pub comes : ComesOn own copy names lists come

-- With the lists that are done, of those that are not named, a closing has come to no stage from which it may go on.
pub record ComesToNone (own copy : OfficeContent) (names : FileNames) : Type 0 where
  pub named : List ListName
  pub done : List SettledListContent
  pub are_done :
      AreDoneIn own.terminal named (segments_in names.archive copy) (archive_in names.archive copy).place done
  pub none : (come : Stage) →
      ¬ ComesOn own copy names (lists_at own (archive_in names.archive copy).place done come) come

-- why the archive does not take the store's history; a number that it keeps otherwise, or in another order, is found in rows
abbrev pub IsReason : OfficeContent → OfficeContent → FileNames → Refusal → Type 0
IsReason own copy names refusal.Closed = own.register.closed_for ≢ None
IsReason own copy names refusal.Office = ¬ IsSameOffice own copy
IsReason own copy names refusal.Later = ¬ IsNoLater own copy
IsReason own copy names refusal.Register = ComesToNone own copy names
IsReason own copy names (refusal.Visit number) = IsCauseOf own.terminal.visits copy.terminal.visits (Differs number)
IsReason own copy names refusal.Order = ⊥
IsReason own copy names refusal.Seals = ⊥
IsReason own copy names (refusal.Interchange difference) = ⊥
