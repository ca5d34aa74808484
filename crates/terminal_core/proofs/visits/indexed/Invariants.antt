use Rattle.std.{specs.Prelude.map, proofs.Common.take}
use Rattle.terminal_core.specs.{Rows.visit_content, Index.AreIndexed}
use Rattle.terminal_core.proofs.visits.indexed.Given as goal

abbrev pub invariant-loop-row_index : goal.invariant-loop-row_index
invariant-loop-row_index l = AreIndexed (map visit_content (take l.row_index l.rows)) l.open_indexes.entries
