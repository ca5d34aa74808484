use Rattle.std.proofs.Common.{◌≡◌, ◌++◌, map, take, string_bytes, flat_map}
use Rattle.terminal_core.specs.Rows.{visit_content}
use Rattle.office_admission.specs.Setups.{setup_content}
use Rattle.office_pages.specs.Visits.{visit_row}
use Rattle.office_pages.proofs.visits.push_rows.Given as goal

abbrev pub invariant-loop-visit : goal.invariant-loop-visit
invariant-loop-visit l = string_bytes l.page ≡ string_bytes l.initial.page ++ flat_map (visit_row (setup_content l.setup)) (map (λ visit. visit_content visit.now) (take l.visit-index l.visits))
