use Rattle.std.proofs.Common.{◌≡◌, ◌++◌, flat_map}
use Rattle.office_report_data.specs.{Tables.{IsBetweenRecords, record_text, written_rows}, Calls.call_fields}
use Rattle.office_reports.specs.Calls.{lists_content}
use Rattle.office_report_data.proofs.calls.push_records.Given as goal

abbrev pub invariant-loop-vessel : goal.invariant-loop-vessel
invariant-loop-vessel l = record {
  between : IsBetweenRecords l.table;
  text : written_rows l.table ++ flat_map (λ row. record_text (call_fields row)) (lists_content l.vessel-iterator)
      ≡ written_rows l.initial.table ++ flat_map (λ row. record_text (call_fields row)) (lists_content l.initial.vessel-iterator);
}
