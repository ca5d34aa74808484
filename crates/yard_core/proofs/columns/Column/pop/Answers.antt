use Rattle.std.proofs.Common.{◌-◌, length, take, sym, ap, ◌∙◌, arith, List}
use Rattle.yard_core.{specs.{YardMap.Box, Columns.present_boxes}, proofs.Cells.{take-somes, IsFilled-less}}
use Rattle.yard_core.proofs.columns.Column.pop.Goals as goal

pub invariant_of-self : goal.invariant_of-self
invariant_of-self c = IsFilled-less c.self.inside.height c.self.inside.boxes c.self.invariant

pub returns : goal.returns
returns c =
    let f = c.self.invariant in
    take-somes c.self.inside.height c.self.inside.boxes (c.self.inside.height - 1) (omega arith) (omega (arith, f.low, f.room)) f.filled
    ∙ ap (λ n. take (n - 1) (present_boxes (take c.self.inside.height c.self.inside.boxes))) (sym f.filled) ∙ ap (λ (b : List Box). take (length b - 1) b) c.self.view_is
