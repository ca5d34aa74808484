use Rattle.std.proofs.Common.{◌≡◌, ◌++◌, map, take, string_bytes, flat_map}
use Rattle.terminal_core.specs.Rows.{visit_content}
use Rattle.office_pages.specs.Tickets.{closed_row}
use Rattle.office_pages.proofs.tickets.push_closed_rows.Given as goal

abbrev pub invariant-loop-visit : goal.invariant-loop-visit
invariant-loop-visit l = string_bytes l.page ≡ string_bytes l.initial.page ++ flat_map closed_row (map (λ visit. visit_content visit.now) (take l.visit-index l.visits))
