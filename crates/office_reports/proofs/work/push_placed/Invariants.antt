use Rattle.std.{specs.Map.values_of, proofs.Common.{◌≡◌, ◌++◌, map}}
use Rattle.office_reports.specs.Work.{job_content, placed_contents}
use Rattle.office_reports.proofs.work.push_placed.Given as goal

abbrev pub invariant-loop-job : goal.invariant-loop-job
invariant-loop-job l =
    map (λ job. job_content job.now) l.rows.items ++ values_of (placed_contents l.job-iterator)
    ≡ map (λ job. job_content job.now) l.initial.rows.items ++ values_of (placed_contents l.initial.job-iterator)
