use Rattle.std.proofs.Common.{◌≡◌, map, take}
use Rattle.office_closing.specs.Register.{archive_content}
use Rattle.office_closing.proofs.register.are_same_archives.Given as goal

abbrev pub invariant-loop-index : goal.invariant-loop-index
invariant-loop-index l = map archive_content (take l.index l.one) ≡ map archive_content (take l.index l.other)
