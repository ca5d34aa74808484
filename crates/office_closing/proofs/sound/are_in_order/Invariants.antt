use Rattle.std.proofs.Common.{◌≡◌, drop}
use Rattle.office_closing.specs.Sound.{are_in_order}
use Rattle.office_closing.proofs.sound.are_in_order.Given as goal

abbrev pub invariant-loop-segment : goal.invariant-loop-segment
invariant-loop-segment l =
    are_in_order 0 0 l.segments ≡ are_in_order l.archive l.partner (drop l.segment-index l.segments)
