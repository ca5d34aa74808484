use Rattle.std.{specs.Map.values_of, proofs.Common.{◌≡◌, ◌++◌, false, map, string_bytes}}
use Rattle.serde_json.specs.{View.items_of, Written.items_text}
use Rattle.office_report_data.specs.Yard.{standing_data}
use Rattle.office_report_data.proofs.yard.push_standings.Given as goal

abbrev pub invariant-loop-standing : goal.invariant-loop-standing
invariant-loop-standing l =
    string_bytes l.text ++ items_text l.is_later (items_of (map standing_data (values_of l.standing-iterator)))
    ≡ string_bytes l.initial.text ++ items_text false (items_of (map standing_data (values_of l.initial.standing-iterator)))
