use Rattle.std.proofs.Common.{◌≡◌, ◌++◌, map, take, string_bytes, flat_map}
use Rattle.terminal_core.specs.Listings.{line_entry}
use Rattle.office_reports.specs.OpenLines.{open_line}
use Rattle.office_reports.proofs.container_lines.push_lines.Given as goal

abbrev pub invariant-loop-line : goal.invariant-loop-line
invariant-loop-line l = string_bytes l.text ≡ string_bytes l.initial.text ++ flat_map open_line (map (λ line. line_entry line.now) (take l.line-index l.lines))
