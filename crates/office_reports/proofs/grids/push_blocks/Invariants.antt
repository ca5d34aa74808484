use Rattle.std.proofs.Common.{◌≡◌, ◌++◌, drop, flat_map, string_bytes}
use Rattle.office_reports.specs.Views.{block_view}
use Rattle.office_reports.proofs.grids.push_blocks.Given as goal

abbrev pub invariant-loop-block : goal.invariant-loop-block
invariant-loop-block l = string_bytes l.text ++ flat_map (block_view l.standings) (drop l.block-index l.blocks) ≡ string_bytes l.initial.text ++ flat_map (block_view l.standings) l.blocks
