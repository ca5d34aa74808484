use Rattle.std.{specs.Prelude.map, proofs.Common.{◌≡◌, take}}
use Rattle.terminal_core.specs.{Rows.visit_content, State.{AreNumbered, last_number}}
use Rattle.terminal_core.proofs.restoring.are_numbered.Given as goal

abbrev pub invariant-loop-visit : goal.invariant-loop-visit
invariant-loop-visit l = record {
  so_far : AreNumbered 0 (map visit_content (take l.visit-index l.visits));
  last : l.last ≡ last_number (map visit_content (take l.visit-index l.visits));
}
