-- The archives of a store in files.
use Rattle.std.specs.Prelude.{◌≡◌, ℕ, List, Some}
use Rattle.sqlite.specs.{Files.HoldsDatabase, Recovery.Image, Tree.Trees}
use Rattle.office_rows.specs.Stored.{StoresRows}
use Rattle.office_history.specs.After.{AreKeptOnce}
use Rattle.office_parts.specs.Archives.{Archive}
use Rattle.office_archives.specs.Shelves.{archive_at}

-- the files hold the rows of this archive, of which no interchange is kept twice
pub record HoldsArchive (image : Image) (archive : Archive) : Type 0 where
  pub db : Trees
  pub held : ∥ HoldsDatabase image db ∥₁
  pub are : StoresRows archive.rows db
  pub kept_once : AreKeptOnce archive.rows.interchanges

-- the files hold the archive at that place, if there is one
abbrev pub HoldArchiveAt : Image → (place : ℕ) → List Archive → Type 0
HoldArchiveAt image place list = (archive : Archive) → archive_at list place ≡ Some archive → HoldsArchive image archive
