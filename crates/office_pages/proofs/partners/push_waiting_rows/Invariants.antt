use Rattle.std.proofs.Common.{◌≡◌, ◌++◌, map, take, string_bytes, flat_map}
use Rattle.office_reports.specs.Partners.{row_content}
use Rattle.office_pages.specs.Partners.{waiting_row}
use Rattle.office_pages.proofs.partners.push_waiting_rows.Given as goal

abbrev pub invariant-loop-row : goal.invariant-loop-row
invariant-loop-row l = string_bytes l.page ≡ string_bytes l.initial.page ++ flat_map waiting_row (map row_content (take l.row-index l.rows))
