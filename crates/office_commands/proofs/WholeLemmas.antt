-- What the files of a store hold that was left whole.
use Rattle.std.proofs.Common.{◌≡◌, inl, inr, List, refl, sym, subst}
use Rattle.sqlite_disk.specs.{declared.Disk.Ghosts, declared.Files.Files}
use Rattle.sqlite.specs.Closing.{HoldsAlone, IsCopied}
use Rattle.sqlite.specs.Files.{file_state, over_files}
use Rattle.sqlite.specs.Held.{Held}
use Rattle.sqlite.specs.Recovery.{Image}
use Rattle.sqlite.specs.declared.FileStore.{FileStore}
use Rattle.office_replies.specs.Events.{Event}
use Rattle.office_admission.specs.Setups.{SetupContent}
use Rattle.office_desk.specs.{Crashes.IsAfter, Desks.StandsFor, declared.desk.Desk.Desk}
use Rattle.office_commands.specs.Whole.{HoldWhole, HoldWholeAfter}

-- what was copied is there now and after a crash
pub copied_whole : {D : Type 0} (g : Ghosts D) (conn : Held (FileStore D g)) (files : Files D) → IsCopied conn files → HoldWhole g files (file_state conn).committed.trees
copied_whole g conn files copied image (inl is) = subst (λ (i : Image). HoldsAlone i (file_state conn).committed.trees) (sym is) copied.seen
copied_whole g conn files copied image (inr left) = copied.left image left

-- the rows of a desk that stands after some events
pub whole_after : {D : Type 0} (g : Ghosts D) (desk : Desk (FileStore D g) over_files) (files : Files D) → HoldWhole g files (file_state desk.conn).committed.trees
    → (content : SetupContent) (es : List Event) → StandsFor over_files content es desk → HoldWholeAfter g files content es
whole_after g desk files whole content es stands image may =
    let alone = whole image may in
    let after : IsAfter content es (file_state desk.conn).committed.trees =
    record { rows = stands.rows; are = record { schema = refl; lists = stands.has.lists; rows_are = stands.has.rows_are }; after = stands.after } in (
      record { db = (file_state desk.conn).committed.trees; held = alone.both; after = after },
      record { db = (file_state desk.conn).committed.trees; held = alone.alone; after = after },
    )
