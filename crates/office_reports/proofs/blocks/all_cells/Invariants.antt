use Rattle.std.proofs.Common.{◌≡◌, ◌≤◌, ◌*◌, ◌^◌, take, sum_by}
use Rattle.office_reports.specs.Blocks.{cell_count}
use Rattle.office_reports.proofs.blocks.all_cells.Given as goal

abbrev pub invariant-loop-block : goal.invariant-loop-block
invariant-loop-block l = (l.cells ≡ sum_by cell_count (take l.block-index l.blocks)) × (l.cells ≤ l.block-index * 2 ^ 24)
