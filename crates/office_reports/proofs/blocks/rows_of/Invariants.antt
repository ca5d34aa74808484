use Rattle.std.proofs.Common.{◌≡◌, map, take}
use Rattle.office_reports.specs.Blocks.{row_of}
use Rattle.office_reports.proofs.blocks.rows_of.Given as goal

abbrev pub invariant-loop-block : goal.invariant-loop-block
invariant-loop-block l = l.rows.items ≡ map (row_of l.terminal l.yard) (take l.block-index l.block-items)
