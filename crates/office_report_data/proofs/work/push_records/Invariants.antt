use Rattle.std.proofs.Common.{◌≡◌, ◌++◌, drop, map, flat_map}
use Rattle.office_report_data.specs.{Tables.{IsBetweenRecords, record_text, written_rows}, Work.job_fields}
use Rattle.office_reports.specs.Work.{job_content}
use Rattle.office_report_data.proofs.work.push_records.Given as goal

abbrev pub invariant-loop-job : goal.invariant-loop-job
invariant-loop-job l = record {
  between : IsBetweenRecords l.table;
  text : written_rows l.table ++ flat_map (λ row. record_text (job_fields row)) (map (λ job. job_content job.now) (drop l.job-index l.rows))
      ≡ written_rows l.initial.table ++ flat_map (λ row. record_text (job_fields row)) (map (λ job. job_content job.now) l.rows);
}
