-- The archives of a store, of which some are open.
use Rattle.std.specs.Prelude.{◌≡◌, ◌⊎◌, ◌==◌, ℕ, ◌+◌, ◌-◌, ◌≤◌, ◌<◌, true, nat_le, nat_lt, List, [], ◌∷◌, ◌++◌, drop, filter, length, remove, take, Option, None, Some, slice_get, IsTrue, if◌then◌else◌}
use Rattle.std.specs.{List.{AllByRecursion, position}, Option.{option_and_then, option_map, unwrap_or}}
use Rattle.sqlite.specs.{Effect.Database, Held.{Held, state}, State.HasCleanDisk}
use Rattle.sqlite_trees.specs.declared.store.Store.{Ghosts}
use Rattle.edi_messages.specs.Purposes.{CallContent}
use Rattle.terminal_core.specs.declared.lines.Side.{Side}
use Rattle.office_rows.specs.{Rows.{ListingContent, Rows}, Stored.HasRows}
use Rattle.office_history.specs.After.{AreKeptOnce}
use Rattle.office_parts.specs.{Archives.{Archive, archive_of}, Away.lines_away, OwnLists.{ListName, list_name}}
use Rattle.office_closing.specs.{Texts.IsTextOf, Changes.closed_with, Lists.{SettledListContent, lines_of_list, lists_among}, Sound.is_sound}
use Rattle.office_closing.specs.{Register.{ArchiveContent, RegisterContent, SealedContent, last_closed, register_content}, declared.register.Register.Register}
use Rattle.office_closing.specs.{Seals.HasSeals, declared.register.Segment.Segment}
use Rattle.office_archives.specs.declared.opened.Opened.{Opened}
use Rattle.office_closing.specs.Register as register

-- the archive at a place, the first at 1
abbrev pub archive_at : List Archive → ℕ → Option Archive
archive_at list place = slice_get list (place - 1)

-- the database has the rows of the archive at that place, of which no interchange is kept twice
pub record HasArchive (archive : Archive) (db : Database) : Type 0 where
  pub has : HasRows archive.rows db
  pub kept_once : AreKeptOnce archive.rows.interchanges

-- as far as its disk has returned what was written, and while it is open, the connection is to the archive at that place, if
-- there is one
abbrev pub IsOpenAt : {S : Type 0} (g : Ghosts S) → List Archive → (place : ℕ) → Held S → Type 0
IsOpenAt g list place conn =
    HasCleanDisk (state g conn) → IsTrue (state g conn).is_open → (archive : Archive) → archive_at list place ≡ Some archive
    → HasArchive archive (state g conn).committed

-- ---- those that are open

-- the most archives that are open at a time
abbrev pub most_open : ℕ
most_open = 4

-- without the first, the one that was asked longest ago, if as many are open as may be
abbrev pub with_room : {X : Type 0} → List X → List X
with_room opened = if nat_le most_open (length opened) then drop 1 opened else opened

-- the index of the one at that place, if it is open
abbrev pub index_at : {S : Type 0} {g : Ghosts S} (place : ℕ) → List (Opened S g) → Option ℕ
index_at {S} {g} place opened = position (λ (one : Opened S g). one.place == place) opened

-- those that stay open beside the one at that place, which is asked now: all but that one, or as many as leave room for it
abbrev pub left_open : {S : Type 0} {g : Ghosts S} (place : ℕ) → List (Opened S g) → List (Opened S g)
left_open place opened = unwrap_or (option_map (remove opened) (index_at place opened)) (with_room opened)

-- its disk has returned what was written, the connection is open, and it is one of those that are known
abbrev pub IsSoundIfAny : {S : Type 0} (g : Ghosts S) (is_known : ℕ → Type 0) → Option (Opened S g) → Type 0
IsSoundIfAny g is_known None = Unit {0}
IsSoundIfAny g is_known (Some opened) =
    HasCleanDisk (state g opened.archive.conn) × IsTrue (state g opened.archive.conn).is_open × is_known opened.place

-- if any is open, so is the last of them, the one that was asked last
abbrev pub IsLastSound : {S : Type 0} (g : Ghosts S) (is_known : ℕ → Type 0) → List (Opened S g) → Type 0
IsLastSound g is_known opened = IsSoundIfAny g is_known (slice_get opened (length opened - 1))

-- if it is one of those that are known, the connection is to the archive at its place
abbrev pub IsOpenIfKnown : {S : Type 0} (g : Ghosts S) (is_known : ℕ → Type 0) → List Archive → Opened S g → Type 0
IsOpenIfKnown g is_known list opened = is_known opened.place → IsOpenAt g list opened.place opened.archive.conn

-- what a connection shows is so, as far as its disk has returned what was written, and while it is open
abbrev pub ShowsSo : {S : Type 0} (g : Ghosts S) → Held S → (IsSo : Rows → Type 0) → Type 0
ShowsSo g conn IsSo = HasCleanDisk (state g conn) → IsTrue (state g conn).is_open → (rows : Rows) →
    HasRows rows (state g conn).committed → AreKeptOnce rows.interchanges → IsSo rows

-- if it is said to have all its seals, it has those of this register
abbrev pub IsSealedIfSaid : {S : Type 0} (g : Ghosts S) → RegisterContent → Opened S g → Type 0
IsSealedIfSaid g names opened = opened.is_sealed ≡ true → ShowsSo g opened.archive.conn (HasSeals names opened.place)

-- so has each that is open
abbrev pub AreSealed : {S : Type 0} (g : Ghosts S) → RegisterContent → List (Opened S g) → Type 0
AreSealed g names opened = AllByRecursion (IsSealedIfSaid g names) opened

-- ---- what the register names

-- the archives and segments of the register of a store as the archive at that place was closed: those before
abbrev pub register_before : (place : ℕ) → RegisterContent → RegisterContent
register_before place names =
    record {
      archives = filter (λ (archive : ArchiveContent). nat_lt archive.place place) names.archives;
      segments = filter (λ (segment : Segment). nat_lt segment.archive place) names.segments;
      lists = [];
      taken = [];
      sealed = [];
      closed_for = None;
    }

-- what the register keeps of the list of a call is the text of its lines as they were put away last
abbrev pub IsKeptAs : CallContent → Side → (text : Option (List ℕ)) → (lines : Option (List ListingContent)) → Type 0
IsKeptAs call side None None = Unit {0}
IsKeptAs call side (Some text) (Some lines) = IsTextOf call side text lines
IsKeptAs call side text lines = ⊥

-- it is the name of a call's list
abbrev pub IsOfCall : ListName → Type 0
IsOfCall name = (call : CallContent) × (side : Side) × (list_name call side ≡ name)

-- A register names these archives: as many, and for each number, from 1, the one that reaches it first. It keeps the lines
-- of each list that was put away, of those of the first so many archives too.
pub record NamesAll (names : RegisterContent) (list : List Archive) : Type 0 where
  pub counted : length list ≡ length names.archives
  pub named : (partner number : ℕ) → 1 ≤ number → archive_of list partner number
      ≡ option_and_then (archive_at list) (register.archive_of names.segments partner number)
  pub lists : (call : CallContent) (side : Side) →
      IsKeptAs call side (lines_of_list names.lists call side) (lines_away list (list_name call side))
  pub among : (count : ℕ) (call : CallContent) (side : Side) →
      IsKeptAs call side (lines_of_list (lists_among count names.lists) call side)
      (lines_away (take count list) (list_name call side))
  pub of_calls : (name : ListName) → (lines_away list name ≡ None) ⊎ IsOfCall name

-- These are on the shelf, and the register names them; few are open, each of them one of these, if it is known, and with all its
-- seals, if that is said.
pub record AreShelved {S F : Type 0} (g : Ghosts S) (is_known : ℕ → Type 0) (holds : List Archive → F → Type 0)
    (list : List Archive) (shelf : F) (names : Register) (opened : List (Opened S g)) : Type 0 where
  pub on_shelf : holds list shelf
  pub are_named : NamesAll (register_content names) list
  pub few_open : length opened ≤ most_open
  pub are_open : AllByRecursion (IsOpenIfKnown g is_known list) opened
  pub are_sealed : AreSealed g (register_content names) opened

-- ---- what is taken out of it

-- A connection was opened to the archive at a place, if it is one of those that are known, whichever are on the shelf.
abbrev pub OpensFor : {S F : Type 0} (g : Ghosts S) (is_known : ℕ → Type 0) (holds : List Archive → F → Type 0) → F → Register →
    List (Opened S g) → (place : ℕ) → Held S → Type 0
OpensFor g is_known holds shelf names opened place conn =
    is_known place → (list : List Archive) → AreShelved g is_known holds list shelf names opened → IsOpenAt g list place conn

-- The archive at a place was taken out: of the others these stay open, with the seals that they are said to have, and what is
-- named and shelved stays so.
pub record LeavesOpen {S F : Type 0} (g : Ghosts S) (is_known : ℕ → Type 0) (holds : List Archive → F → Type 0) (place : ℕ)
    (shelf after : F) (names still : Register) (opened stay : List (Opened S g)) : Type 0 where
  pub named : still ≡ names
  pub left : stay ≡ left_open place opened
  pub room : length opened ≤ most_open → length stay < most_open
  pub sealed : AreSealed g (register_content names) opened → AreSealed g (register_content still) stay
  pub same : (list : List Archive) → AreShelved g is_known holds list shelf names opened
      → AreShelved g is_known holds list after still stay

-- An archive was opened that shows so, and it is given; or one that does not, and it is closed.
abbrev pub IsTakenIf : {S : Type 0} (g : Ghosts S) (Opens : Held S → Type 0) (IsSo : Rows → Type 0) → Option (Opened S g) →
    Type 0
IsTakenIf {S} g Opens IsSo None = (conn : Held S) × Opens conn × ShowsSo g conn (λ rows. IsSo rows → ⊥)
IsTakenIf g Opens IsSo (Some opened) = Opens opened.archive.conn × ShowsSo g opened.archive.conn IsSo

-- The archive at a place was opened and asked, and is the last of those that are open: what it shows is so.
pub record IsToldBy {S : Type 0} (g : Ghosts S) (Opens : Held S → Type 0) (place : ℕ) (opened : List (Opened S g))
    (IsSo : Rows → Type 0) : Type 0 where
  pub before : List (Opened S g)
  pub one : Opened S g
  pub last : opened ≡ before ++ one ∷ []
  pub at : one.place ≡ place
  pub opens : Opens one.archive.conn
  pub shows : ShowsSo g one.archive.conn IsSo

-- ---- what a closing makes of it

-- an archive has these lists, each by the text of its lines, and no other
pub record HasLists (one : Archive) (lists : List SettledListContent) : Type 0 where
  pub kept : (call : CallContent) (side : Side) →
      IsKeptAs call side (lines_of_list lists call side) (one.lists (list_name call side))
  pub of_calls : (name : ListName) → (one.lists name ≡ None) ⊎ IsOfCall name

-- An archive is added to a sound register, with segments and lists of its own: then it names this archive after those that it
-- named, if it closed what the register then says and has those lists.
abbrev pub NamesOneMore : Type 0
NamesOneMore =
    (names : RegisterContent) (list : List Archive) (archive : ArchiveContent) (segments : List Segment)
    (lists : List SettledListContent) (taken : List Segment) (sealed : List SealedContent) (one : Archive) →
    IsTrue (is_sound names) → NamesAll names list →
    AllByRecursion (λ (segment : Segment). segment.archive ≡ length list + 1) segments →
    AllByRecursion (λ (put : SettledListContent). put.archive ≡ length list + 1) lists →
    ((partner : ℕ) → one.last_closed partner ≡ last_closed (closed_with archive segments lists taken sealed names).segments partner) →
    HasLists one lists →
    NamesAll (closed_with archive segments lists taken sealed names) (list ++ one ∷ [])
