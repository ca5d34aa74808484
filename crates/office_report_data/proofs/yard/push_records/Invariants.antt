use Rattle.std.{specs.Map.values_of, proofs.Common.{◌≡◌, ◌++◌, flat_map}}
use Rattle.office_report_data.specs.{Tables.{IsBetweenRecords, written_rows}, Yard.standing_record}
use Rattle.office_report_data.proofs.yard.push_records.Given as goal

abbrev pub invariant-loop-standing : goal.invariant-loop-standing
invariant-loop-standing l = record {
  between : IsBetweenRecords l.table;
  text : written_rows l.table ++ flat_map standing_record (values_of l.standing-iterator)
      ≡ written_rows l.initial.table ++ flat_map standing_record (values_of l.initial.standing-iterator);
}
