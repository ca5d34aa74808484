use Rattle.std.proofs.Common.{◌≡◌, ◌++◌, map, take, string_bytes, flat_map}
use Rattle.office_reports.specs.Partners.{row_content}
use Rattle.office_pages.specs.Start.{missing}
use Rattle.office_pages.proofs.start.push_missing.Given as goal

abbrev pub invariant-loop-row : goal.invariant-loop-row
invariant-loop-row l = string_bytes l.page ≡ string_bytes l.initial.page ++ flat_map missing (map row_content (take l.row-index l.rows))
