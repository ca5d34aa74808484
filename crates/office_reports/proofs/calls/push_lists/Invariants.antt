use Rattle.std.proofs.Common.{◌≡◌, ◌++◌, flat_map, string_bytes}
use Rattle.office_reports.specs.Calls.{call_line, lists_content}
use Rattle.office_reports.proofs.calls.push_lists.Given as goal

abbrev pub invariant-loop-vessel : goal.invariant-loop-vessel
invariant-loop-vessel l =
    string_bytes l.text ++ flat_map call_line (lists_content l.vessel-iterator) ≡ string_bytes l.initial.text ++ flat_map call_line (lists_content l.initial.vessel-iterator)
