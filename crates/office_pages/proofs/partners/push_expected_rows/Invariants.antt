use Rattle.std.proofs.Common.{◌≡◌, ◌++◌, map, take, string_bytes, flat_map}
use Rattle.office_reports.specs.Partners.{row_content}
use Rattle.office_pages.specs.Partners.{expected_row}
use Rattle.office_pages.proofs.partners.push_expected_rows.Given as goal

abbrev pub invariant-loop-row : goal.invariant-loop-row
invariant-loop-row l = string_bytes l.page ≡ string_bytes l.initial.page ++ flat_map expected_row (map row_content (take l.row-index l.rows))
