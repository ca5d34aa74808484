use Rattle.std.proofs.Common.{◌≡◌, ◌++◌, drop, map, flat_map}
use Rattle.office_report_data.specs.{Tables.{IsBetweenRecords, record_text, written_rows}, Last.last_fields}
use Rattle.office_reports.specs.Last.{last_row_content}
use Rattle.office_report_data.proofs.last.push_records.Given as goal

abbrev pub invariant-loop-row : goal.invariant-loop-row
invariant-loop-row l = record {
  between : IsBetweenRecords l.table;
  text : written_rows l.table ++ flat_map (λ row. record_text (last_fields row)) (map last_row_content (drop l.row-index l.rows))
      ≡ written_rows l.initial.table ++ flat_map (λ row. record_text (last_fields row)) (map last_row_content l.rows);
}
