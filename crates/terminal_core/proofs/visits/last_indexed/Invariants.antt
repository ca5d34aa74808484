use Rattle.std.{specs.Prelude.map, proofs.Common.take}
use Rattle.terminal_core.specs.{Rows.visit_content, Index.AreLastIndexed}
use Rattle.terminal_core.proofs.visits.last_indexed.Given as goal

abbrev pub invariant-loop-row_index : goal.invariant-loop-row_index
invariant-loop-row_index l = AreLastIndexed (map visit_content (take l.row_index l.rows)) l.last_indexes.entries
