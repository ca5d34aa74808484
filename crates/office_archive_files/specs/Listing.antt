-- The lines that list a store's archives.
use Rattle.std.specs.Prelude.{◌≡◌, ℕ, ◌==◌, true, false, cond, List, [], ◌∷◌, ◌++◌, length, codes, decimal, IsTrue}
use Rattle.office_reports.specs.Names.{line}
use Rattle.sqlite.specs.{Held.{Held, state}, Recovery.Image, State.HasCleanDisk}
use Rattle.sqlite_trees.specs.declared.store.Store.{Ghosts}
use Rattle.office_closing.specs.{Register.{ArchiveContent, RegisterContent, closed_by, is_of_terminal}, Sound.is_sound}
use Rattle.office_admission.specs.Setups.{SetupContent}
use Rattle.office_commands.specs.Beside.{IsOfDayHeld, IsSetUpHeld}
use Rattle.office_archive_files.specs.{Archives.IsSealedAt, declared.shelf.Found.Found}
use Rattle.office_archive_files.specs.declared.shelf.Found.TheVariants as found

-- what is found under the name of an archive, in a word
abbrev pub word_of : Found → List ℕ
word_of found.Archive = codes "THERE"
word_of found.Nothing = codes "MISSING"
word_of found.Other = codes "OTHER"

-- ARCHIVE PLACE FILE VISITS N THERE
abbrev pub archive_line : ArchiveContent → Found → List ℕ
archive_line archive found =
    line (codes "ARCHIVE" ∷ decimal archive.place ∷ archive.file ∷ codes "VISITS" ∷ decimal archive.visits ∷ word_of found ∷ [])

module _ {S : Type 0} (g : Ghosts S) (image : Image) (path : List ℕ) (store : SetupContent) (names : RegisterContent) where
  -- as the archive of that place only what a connection showed as such is found, with all its seals
  abbrev pub IsFoundAt : (place : ℕ) → Found → Type 0
  IsFoundAt place found.Archive = IsSealedAt g image path store names place true
  IsFoundAt place found.Nothing = Unit {0}
  IsFoundAt place found.Other = Unit {0}

-- a line for each of these archives follows a text, with what is found of it
abbrev pub FollowIn : (IsFound : (place : ℕ) → Found → Type 0) → List ArchiveContent → (before text : List ℕ) → Type 0
FollowIn IsFound [] before text = text ≡ before
FollowIn IsFound (archive ∷ archives) before text =
    (found : Found) × IsFound archive.place found × FollowIn IsFound archives (before ++ archive_line archive found) text

-- with 1 if there is none
abbrev pub listing_text : (count : ℕ) → (lines : List ℕ) → List ℕ
listing_text count lines = cond (count == 0) (codes "none\n") lines

abbrev pub listing_status : (count : ℕ) → ℕ
listing_status count = cond (count == 0) 1 0

-- The lines of the archives that a sound register names are printed: of the store at a path, whose set-up is what its files held,
-- and which is of no day before that register, and of no other terminal.
pub record IsListed {S T : Type 0} (g : Ghosts S) (h : Ghosts T) (held image : Image) (path : List ℕ)
    (prints : (text : List ℕ) (wanted : ℕ) → Type 0) : Type 0 where
  pub store : SetupContent
  pub names : RegisterContent
  pub sound : IsTrue (is_sound names)
  pub looked : Held S
  pub store_is : HasCleanDisk (state g looked) → IsSetUpHeld held (closed_by names) store
  pub of_day : HasCleanDisk (state g looked) → IsOfDayHeld held names
  pub of_terminal : is_of_terminal store.terminal names ≡ true
  pub lines : List ℕ
  pub follow : FollowIn (IsFoundAt h image path store names) names.archives [] lines
  pub printed : prints (listing_text (length names.archives) lines) (listing_status (length names.archives))
