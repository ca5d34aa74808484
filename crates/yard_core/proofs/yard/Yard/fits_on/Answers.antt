-- A slot that is open stands right on its first column.
use Rattle.std.proofs.Common.{◌≡◌, ◌<◌, ◌+◌, ◌∙◌, length, sym, subst, ap}
use Rattle.yard_core.specs.{YardMap.{YardMap, placement, placement_of}, Columns.{near_of, column_at}, Search.IsOpenTo}
use Rattle.yard_core.proofs.LeastHeights.{not_true, open_ends}
use Rattle.yard_core.proofs.yard.Yard.fits_on.Goals as goal

pub returns-else-ends_below : goal.returns-else-ends_below
returns-else-ends_below c = (
  λ level_. absurd (not_true _ c.if-ends_below.false level_),
  λ open_to.
      let y = c.self.inside in
      let s = placement c.args.length c.args.slot in
      let here = subst (λ (y : YardMap). IsOpenTo y c.args.length c.args.is_laden c.args.slot) (sym c.self.view_is) open_to in
      let column : c.args.column ≡ near_of y.plan s = c.requires ∙ ap (λ (y : YardMap). near_of y.plan s) (sym c.self.view_is) in
      c.ends_below.ensures.1 (subst (λ i. (i < length y.columns) × (length (column_at y.columns i) + 1 ≡ c.args.slot.tier)) (sym column) (open_ends y.plan y.columns (placement_of y.placements) c.self.invariant s here.open_)),
)
