use Rattle.std.proofs.Common.{◌<◌, ◌≡◌, ap, ◌∙◌, length, arith, get_or-set_same}
use Rattle.yard_core.proofs.LeastHeights.{AreLeastHeights-fallen, AreLeastHeights-lower}
use Rattle.yard_core.proofs.columns.Columns.pop.Goals as goal

pub invariant_of-self : goal.invariant_of-self
invariant_of-self c =
    let within : c.args.column < length c.self.inside.columns.items = omega (arith, c.requires.in_range, ap length c.self.view_is) in
    let told : c.height-height.result ≡ length c.pop.new.self = c.height-height.ensures.exact ∙ ap length (c.index.ensures ∙ get_or-set_same c.self.inside.columns.items c.args.column c.pop.new.self c.index.result.now within) in
    AreLeastHeights-fallen c.self.inside.columns.items c.self.inside.least_heights.items c.args.column c.pop.new.self c.height-height.result c.index-least.result.now within c.index-least.ensures c.if-height-least.true told c.self.invariant

pub invariant_of-self-else-height-least : goal.invariant_of-self-else-height-least
invariant_of-self-else-height-least c =
    let within : c.args.column < length c.self.inside.columns.items = omega (arith, c.requires.in_range, ap length c.self.view_is) in
    let told : c.height-height.result ≡ length c.pop.new.self = c.height-height.ensures.exact ∙ ap length (c.index.ensures ∙ get_or-set_same c.self.inside.columns.items c.args.column c.pop.new.self c.index.result.now within) in
    AreLeastHeights-lower c.self.inside.columns.items c.self.inside.least_heights.items c.args.column c.pop.new.self c.index-least.result.now within c.index-least.ensures (omega (arith, told, c.if-height-least.false)) c.self.invariant
