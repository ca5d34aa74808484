use Rattle.std.proofs.Common.{◌≡◌, ◌++◌, drop, map, flat_map, string_bytes}
use Rattle.terminal_core.specs.Rows.{visit_content}
use Rattle.office_reports.specs.Tickets.{closed_line}
use Rattle.office_reports.proofs.tickets.push_exits.Given as goal

abbrev pub invariant-loop-visit : goal.invariant-loop-visit
invariant-loop-visit l =
    string_bytes l.text ++ flat_map closed_line (map (λ visit. visit_content visit.now) (drop l.visit-index l.closed))
    ≡ string_bytes l.initial.text ++ flat_map closed_line (map (λ visit. visit_content visit.now) l.closed)
