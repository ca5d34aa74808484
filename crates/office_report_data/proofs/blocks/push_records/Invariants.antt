use Rattle.std.proofs.Common.{◌≡◌, ◌++◌, drop, flat_map}
use Rattle.office_report_data.specs.{Tables.{IsBetweenRecords, record_text, written_rows}, Blocks.block_fields}
use Rattle.office_report_data.proofs.blocks.push_records.Given as goal

abbrev pub invariant-loop-row : goal.invariant-loop-row
invariant-loop-row l = record {
  between : IsBetweenRecords l.table;
  text : written_rows l.table ++ flat_map (λ row. record_text (block_fields row)) (drop l.row-index l.rows)
      ≡ written_rows l.initial.table ++ flat_map (λ row. record_text (block_fields row)) (l.rows);
}
