use Rattle.std.proofs.Common.{◌≡◌, map, drop}
use Rattle.office_closing.specs.{Register.archive_content, Sound.have_own_files}
use Rattle.office_closing.proofs.sound.have_own_files.Given as goal

abbrev pub invariant-loop-before : goal.invariant-loop-before
invariant-loop-before l =
    have_own_files (map archive_content l.archives) ≡ have_own_files (map archive_content (drop l.before l.archives))
