use Rattle.std.proofs.Common.{◌≡◌, ◌++◌, flat_map, string_bytes}
use Rattle.office_reports.specs.Calls.{lists_content}
use Rattle.office_pages.specs.Found.{found_list}
use Rattle.office_pages.proofs.found.push_list_rows.Given as goal

abbrev pub invariant-loop-vessel : goal.invariant-loop-vessel
invariant-loop-vessel l =
    string_bytes l.page ++ flat_map (found_list l.typed) (lists_content l.vessel-iterator) ≡ string_bytes l.initial.page ++ flat_map (found_list l.typed) (lists_content l.initial.vessel-iterator)
