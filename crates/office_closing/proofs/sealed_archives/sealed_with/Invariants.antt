use Rattle.std.proofs.Common.{◌≡◌, map, drop}
use Rattle.office_closing.specs.{Register.sealed_content, Seals.sealed_with}
use Rattle.office_closing.proofs.sealed_archives.sealed_with.Given as goal

abbrev pub invariant-loop-one : goal.invariant-loop-one
invariant-loop-one l =
    sealed_with l.place (map sealed_content l.sealed) ≡ sealed_with l.place (map sealed_content (drop l.one-index l.sealed))
