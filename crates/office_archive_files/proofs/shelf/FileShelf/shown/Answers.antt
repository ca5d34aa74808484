use Rattle.std.proofs.Common.{refl}
use Rattle.sqlite.specs.WalFiles.{image_at}
use Rattle.office_rows.proofs.Creating.{if_ok}
use Rattle.office_archive_files.proofs.ShelfLemmas.{opened_at}
use Rattle.office_archive_files.proofs.shelf.FileShelf.shown.Goals as goal

-- It shows what the files held.
pub returns-clause-opened : goal.returns-clause-opened
returns-clause-opened g c =
    if_ok c.look_there.result (λ archive shows list hold. opened_at (image_at g.B.Start) list c.args.place archive.conn archive.conn shows (λ clean. clean) (λ clean. refl) hold) c.look_there.ensures.found
