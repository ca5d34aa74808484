use Rattle.std.proofs.Common.{string_bytes}
use Rattle.office_reports.{specs.Tickets.entry_line, proofs.Standings.{HasLines, shown}}
use Rattle.office_reports.proofs.tickets.push_entries.Given as goal

abbrev pub invariant-loop-visit : goal.invariant-loop-visit
invariant-loop-visit l = HasLines entry_line shown (string_bytes l.initial.text) l.opened l.visit-index (string_bytes l.text)
