use Rattle.std.proofs.Common.{◌≡◌, map, take}
use Rattle.office_closing.specs.Register.{archive_content}
use Rattle.office_archive_files.proofs.is_archive.are_first_archives.Given as goal

abbrev pub invariant-loop-index : goal.invariant-loop-index
invariant-loop-index l = map archive_content (take l.index l.archives) ≡ map archive_content (take l.index l.others)
