-- What writing the texts of a store and its archives leaves: file by file, and of all together.
use Rattle.std.specs.{Prelude.{◌≡◌, ℕ, ◌+◌, ◌-◌, Bool, true, List, [], ◌∷◌, drop, length, Option, None, Some}, Io.KnownBytes.Appends}
use Rattle.sqlite.specs.{Held.{Held, state}, State.{State, HasCleanDisk}}
use Rattle.sqlite_trees.specs.declared.store.Store.{Ghosts}
use Rattle.office_rows.specs.{Rows.Rows, Stored.HasRows, Tables.interchange_table}
use Rattle.office_loading.specs.Pages.{lines_of}
use Rattle.office_parts.specs.{Archives.Archive, ArchiveJournal.journal_of}
use Rattle.office_closing.specs.{Register.{ArchiveContent, RegisterContent, last_closed}, Seals.HasSeals}
use Rattle.office_history.specs.After.{AreKeptOnce}
use Rattle.office_archives.specs.{Parts.{PartIsWritten, StandInOrder}, declared.passing.Rest.Rest, Shelves.{IsOpenAt, register_before}}

-- the last numbers that were closed before the archive at a place, as a register says
abbrev pub closed_before : (place : ℕ) → RegisterContent → ℕ → ℕ
closed_before place names = last_closed (register_before place names).segments

-- these are the rows, in the order in which they stand in the table of interchanges
pub record HasInOrder (rows : Rows) (shown : State) : Type 0 where
  pub has : HasRows rows shown.committed
  pub in_order : StandInOrder rows.interchanges (shown.committed.trees interchange_table.tree)

-- the archive of a known place was opened on that shelf
abbrev pub OpensOn : {S F : Type 0} (g : Ghosts S) (is_known : ℕ → Type 0) (holds : List Archive → F → Type 0) → F →
    (place : ℕ) → Held S → Type 0
OpensOn g is_known holds shelf place conn =
    is_known place → (list : List Archive) → holds list shelf → IsOpenAt g list place conn

module _ {S : Type 0} (g : Ghosts S) (Opens : (place : ℕ) → Held S → Type 0) where
  -- The archive at a place was opened, and its texts were written, by what it showed then, if its disk has returned in the
  -- end what was written; it kept all that the register has sealed with it. So much is left to be passed over.
  pub record IsAdded (names : RegisterContent) (place : ℕ) (rest : Rest) (old new : Option (List ℕ)) (left : Rest)
      : Type 0 where
    pub opened : Held S
    pub read : Held S
    pub opens : Opens place opened
    pub clean : HasCleanDisk (state g read) → HasCleanDisk (state g opened)
    pub sealed : HasCleanDisk (state g read) → (rows : Rows) → HasRows rows (state g opened).committed →
        AreKeptOnce rows.interchanges → HasSeals names place rows
    pub writes : HasCleanDisk (state g read) → (rows : Rows) → HasInOrder rows (state g opened) →
        PartIsWritten (closed_before place names) (closed_before (place + 1) names) rest rows.interchanges old new left

  -- so were the texts of each of these archives, one after the other
  abbrev pub AreAdded : RegisterContent → List ArchiveContent → Rest → (old new : Option (List ℕ)) → (left : Rest) →
      Type 0
  AreAdded names [] rest old new left = (left ≡ rest) × (new ≡ old)
  AreAdded names (archive ∷ archives) rest old new left =
      (next : Rest) × (between : Option (List ℕ)) × IsAdded names archive.place rest old between next
      × AreAdded names archives next between new left

  -- The texts of all archives of a register were written, without the first so many, and then those of the store, by what it
  -- showed, which is beyond all that is closed. So many are left to be passed over.
  pub record IsJournalWritten (names : RegisterContent) (from : ℕ) (read shown : State) (old new : Option (List ℕ))
      (left : ℕ) : Type 0 where
    pub rest : Rest
    pub between : Option (List ℕ)
    pub archives : AreAdded names names.archives (record { from = from; carried = 0 }) old between rest
    pub own : HasCleanDisk read → (rows : Rows) → HasInOrder rows shown →
        (carried : ℕ)
        × PartIsWritten (last_closed names.segments) (last_closed names.segments) rest rows.interchanges between new
        (record { from = left; carried = carried })

  -- What each archive was when it was opened, from that place on: its disk told the truth, it had these rows in this order, and
  -- it closed what the register says. No archive of the register is beyond these.
  abbrev pub AreShownAs : (names : RegisterContent) (place : ℕ) (archives : List ArchiveContent) (rest : Rest)
      (old new : Option (List ℕ)) (left : Rest) → AreAdded names archives rest old new left → List Archive → Type 0
  AreShownAs names place [] rest old new left added [] = closed_before place names ≡ last_closed names.segments
  AreShownAs names place [] rest old new left added (one ∷ list) = ⊥
  AreShownAs names place (archive ∷ archives) rest old new left added [] = ⊥
  AreShownAs names place (archive ∷ archives) rest old new left added (one ∷ list) =
      (archive.place ≡ place) × HasCleanDisk (state g added.2.read) × HasInOrder one.rows (state g added.2.opened)
      × (one.last_closed ≡ closed_before (place + 1) names)
      × AreShownAs names (place + 1) archives added.0 added.1 new left added.3 list

  -- the archives were these, the first at 1, nothing was closed before them, and the store had these rows
  pub record AreShown (names : RegisterContent) (from : ℕ) (read shown : State) (old new : Option (List ℕ)) (left : ℕ)
      (written : IsJournalWritten names from read shown old new left) (list : List Archive) (rows : Rows) : Type 0 where
    pub none_before : closed_before 1 names ≡ (λ partner. 0)
    pub archives : AreShownAs names 1 names.archives (record { from = from; carried = 0 }) old written.between written.rest
        written.archives list
    pub clean : HasCleanDisk read
    pub own : HasInOrder rows shown

-- the writer has failed just if there is nothing to tell, and not before
abbrev pub FailsIfNone : {A : Type 0} → (failed failed' : Bool) → Option A → Type 0
FailsIfNone failed failed' None = failed' ≡ true
FailsIfNone failed failed' (Some left) = failed' ≡ failed

-- ---- the law

-- these texts were written, without the first so many, and so many of those there are not
pub record IsJournal (from : ℕ) (journal : List (List ℕ)) (old new : Option (List ℕ)) (left : ℕ) : Type 0 where
  pub left_is : left ≡ from - length journal
  pub appended : Appends old new (lines_of (drop from journal))

-- if the archives and the store were these, what was written is their journal
abbrev pub WrittenIsJournal : {S T : Type 0} (g : Ghosts S) (h : Ghosts T) (Opens : (place : ℕ) → Held S → Type 0) →
    Type 0
WrittenIsJournal {S} {T} g h Opens =
    (names : RegisterContent) (from : ℕ) (read shown : Held T) (old new : Option (List ℕ)) (left : ℕ)
    (written : IsJournalWritten g Opens names from (state h read) (state h shown) old new left) (list : List Archive)
    (rows : Rows) → AreShown g Opens names from (state h read) (state h shown) old new left written list rows
    → IsJournal from (journal_of list rows.interchanges) old new left
