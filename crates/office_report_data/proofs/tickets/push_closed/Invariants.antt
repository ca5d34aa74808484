use Rattle.std.proofs.Common.{◌≡◌, ◌++◌, drop, false, map, string_bytes}
use Rattle.serde_json.specs.{View.items_of, Written.items_text}
use Rattle.terminal_core.specs.Rows.{visit_content}
use Rattle.office_report_data.specs.Tickets.{closed_data}
use Rattle.office_report_data.proofs.tickets.push_closed.Given as goal

abbrev pub invariant-loop-visit : goal.invariant-loop-visit
invariant-loop-visit l =
    string_bytes l.text ++ items_text l.is_later (items_of (map closed_data (map (λ visit. visit_content visit.now) (drop l.visit-index l.visits))))
    ≡ string_bytes l.initial.text ++ items_text false (items_of (map closed_data (map (λ visit. visit_content visit.now) l.visits)))
