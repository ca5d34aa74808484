use Rattle.std.proofs.Common.{◌≡◌, ◌++◌, drop, false, map, string_bytes}
use Rattle.serde_json.specs.{View.items_of, Written.items_text}
use Rattle.office_reports.specs.Work.{job_content}
use Rattle.office_report_data.specs.Work.{job_data}
use Rattle.office_report_data.proofs.work.push_jobs.Given as goal

abbrev pub invariant-loop-job : goal.invariant-loop-job
invariant-loop-job l =
    string_bytes l.text ++ items_text l.is_later (items_of (map job_data (map (λ job. job_content job.now) (drop l.job-index l.rows))))
    ≡ string_bytes l.initial.text ++ items_text false (items_of (map job_data (map (λ job. job_content job.now) l.rows)))
