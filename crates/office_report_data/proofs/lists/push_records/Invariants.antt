use Rattle.std.proofs.Common.{◌≡◌, ◌++◌, flat_map}
use Rattle.office_report_data.specs.{Tables.{IsBetweenRecords, record_text, written_rows}, Lists.listed_fields}
use Rattle.office_reports.specs.Lists.{list_contents}
use Rattle.office_report_data.proofs.lists.push_records.Given as goal

abbrev pub invariant-loop-container : goal.invariant-loop-container
invariant-loop-container l = record {
  between : IsBetweenRecords l.table;
  text : written_rows l.table ++ flat_map (λ row. record_text (listed_fields row)) (list_contents l.container-iterator)
      ≡ written_rows l.initial.table ++ flat_map (λ row. record_text (listed_fields row)) (list_contents l.initial.container-iterator);
}
