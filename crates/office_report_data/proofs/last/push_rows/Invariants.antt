use Rattle.std.proofs.Common.{◌≡◌, ◌++◌, drop, false, map, string_bytes}
use Rattle.serde_json.specs.{View.items_of, Written.items_text}
use Rattle.office_reports.specs.Last.{last_row_content}
use Rattle.office_report_data.specs.Last.{last_row_data}
use Rattle.office_report_data.proofs.last.push_rows.Given as goal

abbrev pub invariant-loop-row : goal.invariant-loop-row
invariant-loop-row l =
    string_bytes l.text ++ items_text l.is_later (items_of (map last_row_data (map last_row_content (drop l.row-index l.rows))))
    ≡ string_bytes l.initial.text ++ items_text false (items_of (map last_row_data (map last_row_content l.rows)))
