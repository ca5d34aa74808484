use Rattle.std.proofs.Common.{◌≡◌, filter, map, take}
use Rattle.office_closing.specs.{Register.sealed_content, Copies.is_sealed_with}
use Rattle.office_closing.proofs.sealed_archives.all_sealed_with.Given as goal

abbrev pub invariant-loop-other : goal.invariant-loop-other
invariant-loop-other l =
    map sealed_content l.found.items ≡ filter (is_sealed_with l.place) (map sealed_content (take l.other-index l.sealed))
