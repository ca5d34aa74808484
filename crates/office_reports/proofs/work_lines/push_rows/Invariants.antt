use Rattle.std.proofs.Common.{◌≡◌, ◌++◌, drop, map, flat_map, string_bytes}
use Rattle.office_reports.specs.Work.{job_content, job_line}
use Rattle.office_reports.proofs.work_lines.push_rows.Given as goal

abbrev pub invariant-loop-job : goal.invariant-loop-job
invariant-loop-job l =
    string_bytes l.text ++ flat_map (job_line l.side) (map (λ job. job_content job.now) (drop l.job-index l.rows))
    ≡ string_bytes l.initial.text ++ flat_map (job_line l.side) (map (λ job. job_content job.now) l.rows)
