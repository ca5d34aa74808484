use Rattle.std.proofs.Common.{◌≡◌, [], drop, map}
use Rattle.office_reports.specs.Work.{job_content, placed_contents, with_jobs}
use Rattle.office_reports.proofs.work.places_of.Given as goal

abbrev pub invariant-loop-job : goal.invariant-loop-job
invariant-loop-job l = with_jobs (placed_contents l.places.entries) (map job_content (drop l.job-index l.jobs)) ≡ with_jobs [] (map job_content l.jobs)
