use Rattle.std.proofs.Common.{◌≡◌, ◌++◌, false, map, string_bytes}
use Rattle.serde_json.specs.{View.items_of, Written.items_text}
use Rattle.office_reports.specs.Lists.{list_contents}
use Rattle.office_report_data.specs.Lists.{listed_data}
use Rattle.office_report_data.proofs.lists.push_rows.Given as goal

abbrev pub invariant-loop-container : goal.invariant-loop-container
invariant-loop-container l =
    string_bytes l.text ++ items_text l.is_later (items_of (map listed_data (list_contents l.container-iterator)))
    ≡ string_bytes l.initial.text ++ items_text false (items_of (map listed_data (list_contents l.initial.container-iterator)))
