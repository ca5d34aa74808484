use Rattle.std.{specs.List.list_all, proofs.Common.{◌≡◌, map, drop}}
use Rattle.office_closing.specs.{Register.archive_content, Sound.may_be_archive}
use Rattle.office_closing.proofs.sound.may_be_archives.Given as goal

abbrev pub invariant-loop-archive : goal.invariant-loop-archive
invariant-loop-archive l =
    list_all may_be_archive (map archive_content l.archives) ≡ list_all may_be_archive (map archive_content (drop l.archive-index l.archives))
