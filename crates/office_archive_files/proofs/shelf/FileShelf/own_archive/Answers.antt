use Rattle.std.proofs.Common.{sym, subst}
use Rattle.sqlite.specs.WalFiles.{image_at}
use Rattle.office_archive_files.specs.Shelves.{HoldArchiveAt}
use Rattle.office_archive_files.proofs.shelf.FileShelf.own_archive.Goals as goal

-- The archive of the known place was opened.
pub returns-in-Ok-clause-opened : goal.returns-in-Ok-clause-opened
returns-in-Ok-clause-opened g c known list hold = c.in-Ok.ensures list (subst (λ place. HoldArchiveAt (image_at g.B.Start) place list) (sym known) hold)
