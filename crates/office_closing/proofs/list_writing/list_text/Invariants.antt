use Rattle.std.proofs.Common.{◌≡◌, take, map, string_bytes}
use Rattle.office_rows.specs.Rows.{listing_content}
use Rattle.office_closing.specs.Texts.{lines_text}
use Rattle.office_closing.proofs.list_writing.list_text.Given as goal

abbrev pub invariant-loop-line : goal.invariant-loop-line
invariant-loop-line l = string_bytes l.text ≡ lines_text (map listing_content (take l.line-index l.lines))
