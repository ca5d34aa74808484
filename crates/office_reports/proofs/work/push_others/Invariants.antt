use Rattle.std.proofs.Common.{◌≡◌, ◌++◌, drop, filter, map}
use Rattle.office_reports.specs.Work.{is_absent, job_content}
use Rattle.office_reports.proofs.work.push_others.Given as goal

abbrev pub invariant-loop-job : goal.invariant-loop-job
invariant-loop-job l =
    map (λ job. job_content job.now) l.rows.items ++ filter is_absent (map job_content (drop l.job-index l.jobs))
    ≡ map (λ job. job_content job.now) l.initial.rows.items ++ filter is_absent (map job_content l.jobs)
