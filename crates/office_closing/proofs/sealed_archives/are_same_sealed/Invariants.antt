use Rattle.std.proofs.Common.{◌≡◌, map, take}
use Rattle.office_closing.specs.Register.{sealed_content}
use Rattle.office_closing.proofs.sealed_archives.are_same_sealed.Given as goal

abbrev pub invariant-loop-index : goal.invariant-loop-index
invariant-loop-index l = map sealed_content (take l.index l.one) ≡ map sealed_content (take l.index l.other)
