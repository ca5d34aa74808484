use Rattle.std.proofs.Common.{◌*◌, ◌<◌, length, sym, ap, subst, ◌∙◌}
use Rattle.yard_core.{specs.Columns.{column_of, first_cell, last_cell}, proofs.Cells.{bounds, column_below, first_in_column, last_in_column}}
use Rattle.yard_core.proofs.placements.site_of.Goals as goal

pub last_cell-requires : goal.last_cell-requires
last_cell-requires c = (bounds c.args.plan.now c.args.placement.slot c.requires.sized c.requires.in_plan).bay_high

pub returns-clause-near : goal.returns-clause-near
returns-clause-near c =
    subst (λ n. n < 480 * length c.args.plan.now) (sym (c.column_of.ensures.exact ∙ ap (column_of c.args.plan.now) c.first_cell.ensures))
    (column_below c.args.plan.now (first_cell c.args.placement.length c.args.placement.slot) c.requires.sized
    (first_in_column c.args.plan.now c.args.placement.length c.args.placement.slot c.requires.sized c.requires.in_plan c.requires.kind))

pub returns-clause-far : goal.returns-clause-far
returns-clause-far c =
    subst (λ n. n < 480 * length c.args.plan.now) (sym (c.column_of-2.ensures.exact ∙ ap (column_of c.args.plan.now) c.last_cell.ensures))
    (column_below c.args.plan.now (last_cell c.args.placement.length c.args.placement.slot) c.requires.sized
    (last_in_column c.args.plan.now c.args.placement.length c.args.placement.slot c.requires.in_plan c.requires.kind))
