use Rattle.std.proofs.Common.{◌≡◌, map, take}
use Rattle.terminal_core.specs.Listings.{line_entry}
use Rattle.office_reports.specs.Calls.{lists_content, lists_in}
use Rattle.office_reports.proofs.calls.lists_in.Given as goal

abbrev pub invariant-loop-row : goal.invariant-loop-row
invariant-loop-row l = lists_content l.lists.entries ≡ lists_in (map line_entry (take l.row-index l.rows))
