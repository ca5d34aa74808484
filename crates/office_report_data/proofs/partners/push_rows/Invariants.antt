use Rattle.std.proofs.Common.{◌≡◌, ◌++◌, drop, false, map, string_bytes}
use Rattle.serde_json.specs.{View.items_of, Written.items_text}
use Rattle.office_reports.specs.Partners.{row_content}
use Rattle.office_report_data.specs.Partners.{partner_data}
use Rattle.office_report_data.proofs.partners.push_rows.Given as goal

abbrev pub invariant-loop-partner : goal.invariant-loop-partner
invariant-loop-partner l =
    string_bytes l.text ++ items_text l.is_later (items_of (map partner_data (map row_content (drop l.partner-index l.rows))))
    ≡ string_bytes l.initial.text ++ items_text false (items_of (map partner_data (map row_content l.rows)))
