use Rattle.std.{specs.List.list_all, proofs.Common.{◌≡◌, map, drop}}
use Rattle.office_closing.specs.{Register.sealed_content, Sound.may_be_sealed}
use Rattle.office_closing.proofs.sound.may_be_all_sealed.Given as goal

abbrev pub invariant-loop-one : goal.invariant-loop-one
invariant-loop-one l =
    list_all (may_be_sealed l.archives) (map sealed_content l.sealed) ≡ list_all (may_be_sealed l.archives) (map sealed_content (drop l.one-index l.sealed))
