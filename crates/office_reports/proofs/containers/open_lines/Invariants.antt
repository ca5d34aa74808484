use Rattle.std.proofs.Common.{◌≡◌, map, take}
use Rattle.terminal_core.specs.Listings.{line_entry, lines_of}
use Rattle.office_reports.specs.OpenLines.{open_lines}
use Rattle.office_reports.proofs.containers.open_lines.Given as goal

abbrev pub invariant-loop-row : goal.invariant-loop-row
invariant-loop-row l = map (λ line. line_entry line.now) l.lines.items ≡ open_lines (lines_of (take l.row-index l.rows)) l.container
