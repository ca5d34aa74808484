use Rattle.std.proofs.Common.{◌≡◌, ◌++◌, map, take, string_bytes, flat_map}
use Rattle.office_reports.specs.Last.{last_line, last_row_content}
use Rattle.office_reports.proofs.last_lines.push_rows.Given as goal

abbrev pub invariant-loop-row : goal.invariant-loop-row
invariant-loop-row l = string_bytes l.text ≡ string_bytes l.initial.text ++ flat_map last_line (map last_row_content (take l.row-index l.rows))
