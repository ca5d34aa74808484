use Rattle.std.proofs.Common.{◌<◌, ◌++◌, ◌∷◌, [], length, sym, ap, ◌∙◌, arith, List}
use Rattle.yard_core.{specs.YardMap.Box, proofs.Cells.{present_boxes-more, IsFilled-more}}
use Rattle.yard_core.proofs.columns.Column.push.Goals as goal

pub invariant_of-self : goal.invariant_of-self
invariant_of-self c =
    let low : c.self.inside.height < 6 = omega (arith, c.requires, sym (ap length c.self.view_is) ∙ c.self.invariant.filled) in
    IsFilled-more c.self.inside.height c.self.inside.boxes c.args.number low c.self.invariant

pub returns : goal.returns
returns c =
    let low : c.self.inside.height < length c.self.inside.boxes = omega (arith, c.requires, sym (ap length c.self.view_is) ∙ c.self.invariant.filled, c.self.invariant.room) in
    present_boxes-more c.self.inside.height c.self.inside.boxes c.args.number low ∙ ap (λ (b : List Box). b ++ c.args.number ∷ []) c.self.view_is
