use Rattle.std.proofs.Common.{◌≡◌, ◌++◌, flat_map, string_bytes}
use Rattle.office_reports.specs.Lists.{list_contents}
use Rattle.office_pages.specs.Lists.{list_row}
use Rattle.office_pages.proofs.lists.push_rows.Given as goal

abbrev pub invariant-loop-container : goal.invariant-loop-container
invariant-loop-container l =
    string_bytes l.page ++ flat_map list_row (list_contents l.container-iterator) ≡ string_bytes l.initial.page ++ flat_map list_row (list_contents l.initial.container-iterator)
