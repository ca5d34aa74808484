use Rattle.std.proofs.Common.{ℕ, ◌+◌, ◌*◌, ◌<◌, ◌≤◌, length}
use Rattle.yard_core.specs.Columns.{column_at}
use Rattle.yard_core.proofs.columns.is_block_higher.Given as goal

abbrev pub invariant-loop-bay : goal.invariant-loop-bay
invariant-loop-bay l =
    (bay row : ℕ) → l.bay ≤ bay → bay < l.block.bays → row < l.block.rows → l.height + 1 ≤ length (column_at l.columns (l.first + 12 * bay + row))
