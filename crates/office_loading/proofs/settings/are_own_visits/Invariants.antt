use Rattle.std.proofs.Common.{map, drop, ◌↔◌}
use Rattle.terminal_core.specs.Rows.{visit_content}
use Rattle.office_loading.proofs.Offices.{Follow}
use Rattle.office_loading.proofs.settings.are_own_visits.Given as goal

abbrev pub invariant-loop-visit : goal.invariant-loop-visit
invariant-loop-visit l = Follow l.newest_closed 0 (map visit_content l.visits) ↔ Follow l.newest_closed l.before (map visit_content (drop l.visit-index l.visits))
