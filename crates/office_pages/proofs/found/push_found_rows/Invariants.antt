use Rattle.std.proofs.Common.{◌≡◌, ◌++◌, map, take, string_bytes, flat_map}
use Rattle.terminal_core.specs.Rows.{visit_content}
use Rattle.office_pages.specs.Found.{found_row}
use Rattle.office_pages.proofs.found.push_found_rows.Given as goal

abbrev pub invariant-loop-visit : goal.invariant-loop-visit
invariant-loop-visit l = string_bytes l.page ≡ string_bytes l.initial.page ++ flat_map (found_row l.typed) (map visit_content (take l.visit-index l.visits))
