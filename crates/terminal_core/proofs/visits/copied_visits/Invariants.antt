use Rattle.std.{specs.Prelude.map, proofs.Common.{◌≡◌, take}}
use Rattle.terminal_core.specs.Rows.{visit_content}
use Rattle.terminal_core.proofs.visits.copied_visits.Given as goal

abbrev pub invariant-loop-visit : goal.invariant-loop-visit
invariant-loop-visit l = map visit_content l.copies.items ≡ map visit_content (take l.visit-index l.visits)
