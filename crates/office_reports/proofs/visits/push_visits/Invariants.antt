use Rattle.std.proofs.Common.{string_bytes}
use Rattle.office_admission.specs.Setups.{setup_content}
use Rattle.office_reports.{specs.Visits.visit_line, proofs.Standings.{HasLines, shown}}
use Rattle.office_reports.proofs.visits.push_visits.Given as goal

abbrev pub invariant-loop-visit : goal.invariant-loop-visit
invariant-loop-visit l = HasLines (visit_line (setup_content l.setup)) shown (string_bytes l.initial.text) l.visits l.visit-index (string_bytes l.text)
