use Rattle.std.proofs.Common.{◌≡◌, ◌++◌, drop, map, flat_map, string_bytes}
use Rattle.office_reports.specs.Partners.{row_content, row_line}
use Rattle.office_reports.proofs.partners.push_rows.Given as goal

abbrev pub invariant-loop-row : goal.invariant-loop-row
invariant-loop-row l =
    string_bytes l.text ++ flat_map row_line (map row_content (drop l.row-index l.rows))
    ≡ string_bytes l.initial.text ++ flat_map row_line (map row_content l.rows)
