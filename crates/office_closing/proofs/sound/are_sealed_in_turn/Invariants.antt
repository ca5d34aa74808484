use Rattle.std.proofs.Common.{◌≡◌, map, drop}
use Rattle.office_closing.specs.{Register.sealed_content, Sound.are_sealed_in_turn}
use Rattle.office_closing.proofs.sound.are_sealed_in_turn.Given as goal

abbrev pub invariant-loop-one : goal.invariant-loop-one
invariant-loop-one l =
    are_sealed_in_turn 0 (map sealed_content l.sealed) ≡ are_sealed_in_turn l.archive (map sealed_content (drop l.one-index l.sealed))
