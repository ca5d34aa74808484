use Rattle.std.proofs.Common.{◌≡◌, ◌++◌, false, map, string_bytes}
use Rattle.serde_json.specs.{View.items_of, Written.items_text}
use Rattle.office_reports.specs.Calls.{lists_content}
use Rattle.office_report_data.specs.Calls.{call_data}
use Rattle.office_report_data.proofs.calls.push_lists.Given as goal

abbrev pub invariant-loop-vessel : goal.invariant-loop-vessel
invariant-loop-vessel l =
    string_bytes l.text ++ items_text l.is_later (items_of (map call_data (lists_content l.vessel-iterator)))
    ≡ string_bytes l.initial.text ++ items_text false (items_of (map call_data (lists_content l.initial.vessel-iterator)))
