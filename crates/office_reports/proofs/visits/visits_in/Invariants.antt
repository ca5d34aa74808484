use Rattle.std.proofs.Common.{◌≡◌, ◌++◌, drop, filter, map}
use Rattle.terminal_core.specs.{Rows.visit_content, State.is_visit_of}
use Rattle.office_reports.proofs.visits.visits_in.Given as goal

abbrev pub invariant-loop-visit : goal.invariant-loop-visit
invariant-loop-visit l =
    map (λ visit. visit_content visit.now) l.found.items ++ filter (is_visit_of l.container) (map visit_content (drop l.visit-index l.visits))
    ≡ filter (is_visit_of l.container) (map visit_content l.visits)
