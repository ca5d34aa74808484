-- What a closing leaves of its four files, once each was left whole.
use Rattle.std.specs.Prelude.{ℕ, List, Result}
use Rattle.sqlite_disk.specs.{declared.Disk.Ghosts, declared.Files.Files}
use Rattle.sqlite.specs.{Files.over_files, Held.Held, declared.FileStore.FileStore}
use Rattle.office_closing.specs.{declared.faults.CloseFault.CloseFault, declared.planning.PutAway.PutAway}
use Rattle.office_commands.specs.Whole.{IsLeft}
use Rattle.office_archive_files.specs.Closing.{ClosesOver, Images}

-- The files of a closing, each of them left whole, in the place of the connection to it: four files were closed, with that
-- answer, and then each was left so.
pub record ClosesWhole {D : Type 0} (g : Ghosts D) (images : Images) (store archive : List ℕ)
    (own register copy copied : Result (Files D) (FileStore D g)) (result : Result PutAway CloseFault) : Type 0 where
  pub own_conn : Held (FileStore D g)
  pub register_conn : Held (FileStore D g)
  pub copy_conn : Held (FileStore D g)
  pub copied_conn : Held (FileStore D g)
  pub closes : ClosesOver over_files over_files over_files over_files images store archive own_conn register_conn copy_conn
      copied_conn result
  pub own_left : IsLeft own_conn own
  pub register_left : IsLeft register_conn register
  pub copy_left : IsLeft copy_conn copy
  pub copied_left : IsLeft copied_conn copied
