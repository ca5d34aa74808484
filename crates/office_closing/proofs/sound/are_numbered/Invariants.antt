use Rattle.std.proofs.Common.{◌≡◌, ◌+◌, map, drop}
use Rattle.office_closing.specs.{Register.archive_content, Sound.are_numbered}
use Rattle.office_closing.proofs.sound.are_numbered.Given as goal

abbrev pub invariant-loop-before : goal.invariant-loop-before
invariant-loop-before l =
    are_numbered 1 0 (map archive_content l.archives) ≡ are_numbered (l.before + 1) l.visits (map archive_content (drop l.before l.archives))
