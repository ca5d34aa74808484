use Rattle.std.proofs.Common.{◌≡◌, ◌++◌, map, take}
use Rattle.office_closing.specs.Register.{sealed_content}
use Rattle.office_closing.proofs.sealed_archives.append_sealed.Given as goal

abbrev pub invariant-loop-one : goal.invariant-loop-one
invariant-loop-one l =
    map sealed_content l.sealed.items ≡ map sealed_content l.fn.sealed.items ++ map sealed_content (take l.one-index l.more)
