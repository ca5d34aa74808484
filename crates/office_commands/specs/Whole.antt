-- What the files of a store hold once a command has left it whole: the database file holds all without its log.
use Rattle.std.specs.Prelude.{◌≡◌, ◌⊎◌, List, [], Result, IfOk, IfErr}
use Rattle.sqlite_disk.specs.{declared.Disk.Ghosts, declared.Files.Files}
use Rattle.sqlite.specs.{Closing.HoldsAlone, FileStore.recovers, Files.{file_state, image_of}, Held.Held, Recovery.Image, Tree.Trees, WalFiles.outcomes}
use Rattle.sqlite.specs.{WalReads.AreClean, declared.FileStore.FileStore}
use Rattle.office_replies.specs.Events.{Event}
use Rattle.office_admission.specs.Setups.{SetupContent}
use Rattle.office_loading.specs.Closed.{ClosedContent}
use Rattle.office_parts.specs.Archives.{Archive}
use Rattle.office_commands.specs.{Beside.HoldsBeside, Opening.HoldsAfter}

-- the database file by itself, as a copy of it is
abbrev pub without_log : Image → Image
without_log image = record image { log = [] }

module _ {D : Type 0} (g : Ghosts D) (files : Files D) where
  -- what the files hold as they read now, or after a crash
  abbrev pub MayHold : Image → Type 0
  MayHold image = (image ≡ image_of g files) ⊎ outcomes g files.log files.db image

  -- both files hold this database, and so does the database file by itself, now and after a crash
  abbrev pub HoldWhole : Trees → Type 0
  HoldWhole db = (image : Image) → MayHold image → HoldsAlone image db

  -- so they hold the rows after those events
  abbrev pub HoldWholeAfter : SetupContent → List Event → Type 0
  HoldWholeAfter content es =
      (image : Image) → MayHold image → HoldsAfter image content es × HoldsAfter (without_log image) content es

-- the files hold what is left of the rows after those events beside these archives, and so does the database file by itself,
-- now and after a crash
abbrev pub HoldWholeBeside : {D : Type 0} (g : Ghosts D) (files : Files D) → List Archive → ClosedContent → SetupContent →
    List Event → Type 0
HoldWholeBeside g files list closed content es =
    (image : Image) → MayHold g files image →
    HoldsBeside image list closed content es × HoldsBeside (without_log image) list closed content es

-- A store was left whole: as far as the disk has told the truth, its files hold so what was committed last. Or that failed, at
-- whichever write: then a crash leaves nothing that it would not have left before.
pub record IsLeft {D : Type 0} {g : Ghosts D} (conn : Held (FileStore D g)) (left : Result (Files D) (FileStore D g))
    : Type 0 where
  pub whole : IfOk left (λ files. AreClean g files.log files.db → HoldWhole g files (file_state conn).committed.trees)
  pub kept : IfErr left (λ store. (db : Trees) → recovers store db → (file_state conn).may_leave db)
