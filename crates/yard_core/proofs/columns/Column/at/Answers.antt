use Rattle.std.proofs.{Common.{◌≤◌, length, arith, slice_get, sym, ap, ◌∙◌, List}, lemmas.Option.slice_get_past}
use Rattle.yard_core.{specs.YardMap.Box, proofs.Cells.slice_get-somes}
use Rattle.yard_core.proofs.columns.Column.at.Goals as goal

pub returns-then-level-self : goal.returns-then-level-self
returns-then-level-self c =
    sym (slice_get-somes c.self.inside.height c.self.inside.boxes c.args.level c.index-self-level.result c.if-level-self.true (omega (arith, c.self.invariant.low, c.self.invariant.room)) c.self.invariant.filled)
    ∙ ap (λ (b : List Box). slice_get b c.args.level) c.self.view_is

pub returns-else-level-self : goal.returns-else-level-self
returns-else-level-self c =
    let past : length c.args.self.now ≤ c.args.level = omega (arith, sym (ap length c.self.view_is) ∙ c.self.invariant.filled, c.if-level-self.false) in
    sym (slice_get_past c.args.self.now c.args.level past)
