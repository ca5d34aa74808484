use Rattle.std.proofs.Common.{ap, ◌∙◌}
use Rattle.sqlite.specs.{Files.over_files, WalFiles.image_at}
use Rattle.office_closing.specs.Register.{register_content}
use Rattle.office_archive_files.proofs.ShelfLemmas.{none_held, none_shelved}
use Rattle.office_archive_files.proofs.in_files.InFilesArchivesBesideManyArchivesFileStoreFileFromStoreShelf.none.Goals as goal

pub returns : goal.returns
returns g c =
    none_shelved over_files _ _ c.new.result.shelf c.new.result.register c.new.result.opened.items (none_held (image_at g.B.Start) g.B.ArchiveStart.place)
    (ap register_content c.new.ensures.register ∙ c.no_archives.ensures) c.new.ensures.opened
