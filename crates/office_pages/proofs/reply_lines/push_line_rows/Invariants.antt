use Rattle.std.proofs.Common.{◌≡◌, ◌++◌, map, take, string_bytes, flat_map}
use Rattle.serde_json.specs.View.{view}
use Rattle.office_pages.specs.Reply.{line_row}
use Rattle.office_pages.proofs.reply_lines.push_line_rows.Given as goal

abbrev pub invariant-loop-line : goal.invariant-loop-line
invariant-loop-line l = string_bytes l.page ≡ string_bytes l.initial.page ++ flat_map line_row (map view (take l.line-index l.lines))
