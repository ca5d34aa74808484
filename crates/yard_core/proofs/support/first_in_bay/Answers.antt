-- A slot's column is as far from that of its bay's first row as its row is.
use Rattle.std.proofs.Common.{◌≡◌, ◌+◌, ◌-◌, ◌≤◌, ℕ, List, ◌∙◌, ap, arith}
use Rattle.box6346.specs.{declared.size_type.Length.Length, declared.size_type.Length.TheVariants.{Twenty, Forty}, declared.slot.Slot.Slot}
use Rattle.yard_core.specs.{declared.plan.Block.Block, Columns.near_of, YardMap.placement}
use Rattle.yard_core.proofs.support.first_in_bay.Goals as goal

rows_on : (plan : List Block) (size : Length) (corner : Slot) (row : ℕ) → 1 ≤ row
    → near_of plan (placement size (record corner { row = 1 })) + (row - 1) ≡ near_of plan (placement size (record corner { row = row }))
rows_on plan Twenty corner row low = omega arith
rows_on plan Forty corner row low = omega arith

pub fits_on-requires : goal.fits_on-requires
fits_on-requires c = ap (λ n. n + (c.loop-row.row - 1)) c.near_column-first.ensures.exact ∙ rows_on c.args.yard.now.plan c.args.size c.args.corner c.loop-row.row (omega arith)
