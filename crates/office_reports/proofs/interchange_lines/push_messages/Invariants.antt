use Rattle.std.proofs.Common.{◌≡◌, ◌++◌, map, take, string_bytes, flat_map}
use Rattle.office_reports.specs.{InterchangeLines.message_text, Interchanges.row_content}
use Rattle.office_reports.proofs.interchange_lines.push_messages.Given as goal

abbrev pub invariant-loop-message : goal.invariant-loop-message
invariant-loop-message l =
    string_bytes l.text ≡ string_bytes l.initial.text ++ flat_map message_text (map row_content (take l.message-index l.messages))
