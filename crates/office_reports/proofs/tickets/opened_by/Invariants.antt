use Rattle.std.proofs.Common.{◌≡◌, ◌++◌, drop, filter, map}
use Rattle.terminal_core.specs.Rows.{visit_content}
use Rattle.office_reports.specs.Tickets.{is_opened_by}
use Rattle.office_reports.proofs.tickets.opened_by.Given as goal

abbrev pub invariant-loop-visit : goal.invariant-loop-visit
invariant-loop-visit l =
    map (λ visit. visit_content visit.now) l.opened.items ++ filter (is_opened_by l.source) (map visit_content (drop l.visit-index l.visits))
    ≡ filter (is_opened_by l.source) (map visit_content l.visits)
