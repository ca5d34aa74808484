use Rattle.std.proofs.Common.{◌≡◌, ◌++◌, drop, map}
use Rattle.office_reports.specs.Work.{job_content}
use Rattle.office_reports.proofs.work.push_all.Given as goal

abbrev pub invariant-loop-job : goal.invariant-loop-job
invariant-loop-job l =
    map (λ job. job_content job.now) l.rows.items ++ map job_content (drop l.job-index l.jobs)
    ≡ map (λ job. job_content job.now) l.initial.rows.items ++ map job_content l.jobs
