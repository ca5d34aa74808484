use Rattle.sqlite.specs.Files.{over_files}
use Rattle.office_archives.proofs.Rising.{open_read}
use Rattle.office_archive_files.proofs.shelf.FileShelf.opened.Goals as goal

-- What was opened was only read.
pub returns-then-is_own-clause-opened : goal.returns-then-is_own-clause-opened
returns-then-is_own-clause-opened g c list hold =
    open_read over_files list c.args.place c.in_ok-archive.archive.conn c.is_own.new.archive.conn c.is_own.ensures.reads (c.in_ok-archive.ensures.opened list hold)

-- It shows what was read of it.
pub returns-then-is_own-clause-passes : goal.returns-then-is_own-clause-passes
returns-then-is_own-clause-passes g c = c.in_ok-is_own.ensures.passes c.in_ok-archive.ensures.shows c.if-is_own.true
