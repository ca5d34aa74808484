use Rattle.yard_core.proofs.LeastHeights.{AreLeastHeights-none}
use Rattle.yard_core.proofs.columns.Columns.new.Goals as goal

pub invariant_of-result : goal.invariant_of-result
invariant_of-result c =
    AreLeastHeights-none c.args.blocks.now c.in_ok-columns.columns.items c.in_ok-least_heights.least_heights.items c.in_ok-columns.ensures c.in_ok-least_heights.ensures c.requires.sized
