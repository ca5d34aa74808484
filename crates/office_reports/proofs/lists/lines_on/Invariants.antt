use Rattle.std.proofs.Common.{take}
use Rattle.edi_messages.specs.Owned.{call_content}
use Rattle.office_reports.proofs.Listing.{Lists}
use Rattle.office_reports.proofs.lists.lines_on.Given as goal

abbrev pub invariant-loop-line : goal.invariant-loop-line
invariant-loop-line l = Lists (call_content l.call) l.side (take l.line-index l.line-items) l.list.entries
