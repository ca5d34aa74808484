use Rattle.std.proofs.Common.{◌≡◌, ◌++◌, drop, map, flat_map}
use Rattle.office_report_data.specs.{Tables.{IsBetweenRecords, record_text, written_rows}, Visits.visit_fields}
use Rattle.office_admission.specs.Setups.{setup_content}
use Rattle.terminal_core.specs.Rows.{visit_content}
use Rattle.office_report_data.proofs.visits.push_records.Given as goal

abbrev pub invariant-loop-visit : goal.invariant-loop-visit
invariant-loop-visit l = record {
  between : IsBetweenRecords l.table;
  text : written_rows l.table ++ flat_map (λ row. record_text (visit_fields (setup_content l.setup) row)) (map (λ visit. visit_content visit.now) (drop l.visit-index l.visits))
      ≡ written_rows l.initial.table ++ flat_map (λ row. record_text (visit_fields (setup_content l.setup) row)) (map (λ visit. visit_content visit.now) l.visits);
}
