use Rattle.std.proofs.Common.{◌+◌, ◌*◌, ◌/◌, ◌<◌, List, length, refl, ap, subst, arith}
use Rattle.yard_core.{specs.{YardMap.Box, LeastHeights.AreAtLeast}, proofs.LeastHeights.{AreLeastHeights-grown, AreLeastHeights-set, block_of_column}}
use Rattle.yard_core.proofs.columns.Columns.push.Goals as goal

pub invariant_of-self : goal.invariant_of-self
invariant_of-self c =
    let within : c.args.column < length c.self.inside.columns.items = omega (arith, c.requires.in_range, ap length c.self.view_is) in
    let grown = AreLeastHeights-grown c.self.inside.columns.items c.self.inside.least_heights.items c.args.column c.index_mut.result.now c.push.new.self c.args.number within c.index_mut.ensures.value c.push.ensures c.self.invariant in
    let high = subst (λ (columns : List (List Box)). AreAtLeast columns (480 * (c.args.column / 480)) c.index-least.result.now.block (c.height-height.result + 1)) c.deref.ensures.value (c.if-is_block_higher.ensures.0 refl) in
    AreLeastHeights-set _ c.self.inside.least_heights.items (c.args.column / 480) (c.height-height.result + 1) c.index-least.result.now
    (block_of_column c.self.inside.columns.items c.self.inside.least_heights.items c.args.column c.self.invariant within) c.index-least.ensures high grown

pub invariant_of-self-else-is_block_higher : goal.invariant_of-self-else-is_block_higher
invariant_of-self-else-is_block_higher c =
    let within : c.args.column < length c.self.inside.columns.items = omega (arith, c.requires.in_range, ap length c.self.view_is) in
    AreLeastHeights-grown c.self.inside.columns.items c.self.inside.least_heights.items c.args.column c.index_mut.result.now c.push.new.self c.args.number within c.index_mut.ensures.value c.push.ensures c.self.invariant

pub invariant_of-self-else-height-least : goal.invariant_of-self-else-height-least
invariant_of-self-else-height-least c =
    let within : c.args.column < length c.self.inside.columns.items = omega (arith, c.requires.in_range, ap length c.self.view_is) in
    AreLeastHeights-grown c.self.inside.columns.items c.self.inside.least_heights.items c.args.column c.index_mut.result.now c.push.new.self c.args.number within c.index_mut.ensures.value c.push.ensures c.self.invariant
