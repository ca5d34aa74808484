use Rattle.std.proofs.Common.{string_bytes}
use Rattle.office_reports.{specs.Tickets.entry_line, proofs.Standings.{all_rows, next_row, none_yet, shown}}
use Rattle.office_reports.proofs.tickets.push_entries.Goals as goal

pub loop-visit-init : goal.loop-visit-init
loop-visit-init c = none_yet entry_line shown (string_bytes c.args.text.now) c.args.opened.now

pub loop-visit-preserved : goal.loop-visit-preserved
loop-visit-preserved c =
    next_row entry_line shown (string_bytes c.args.text.now) c.args.opened.now c.loop-visit.visit-index c.visit-item.result
    (string_bytes c.loop-visit.text) (string_bytes c.push_entry.new.text) c.loop-visit-test.true c.visit-item.is c.loop-visit.invariant c.in_ok-push_entry.ensures

pub returns : goal.returns
returns c = all_rows entry_line shown (string_bytes c.args.text.now) c.args.opened.now c.loop-visit.visit-index (string_bytes c.loop-visit.text) c.loop-visit-test.false c.loop-visit.invariant
