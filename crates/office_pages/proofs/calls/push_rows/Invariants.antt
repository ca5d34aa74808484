use Rattle.std.proofs.Common.{◌≡◌, ◌++◌, flat_map, string_bytes}
use Rattle.office_reports.specs.Calls.{lists_content}
use Rattle.office_pages.specs.Calls.{call_row}
use Rattle.office_pages.proofs.calls.push_rows.Given as goal

abbrev pub invariant-loop-vessel : goal.invariant-loop-vessel
invariant-loop-vessel l =
    string_bytes l.page ++ flat_map call_row (lists_content l.vessel-iterator) ≡ string_bytes l.initial.page ++ flat_map call_row (lists_content l.initial.vessel-iterator)
