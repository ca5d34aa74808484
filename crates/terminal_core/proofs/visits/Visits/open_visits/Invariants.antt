use Rattle.std.proofs.Common.{map}
use Rattle.terminal_core.{specs.Rows.visit_content, proofs.Dropping.IsOpenSoFar}
use Rattle.terminal_core.proofs.visits.Visits.open_visits.Given as goal

abbrev pub invariant-loop-row_index : goal.invariant-loop-row_index
invariant-loop-row_index l = IsOpenSoFar (map visit_content l.self-inside.rows.items) l.row_index-iterator (map (λ visit. visit_content visit.now) l.found.items)
