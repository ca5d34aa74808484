use Rattle.std.proofs.Common.{◌≡◌, ◌++◌, map}
use Rattle.office_reports.specs.{Lists.list_contents, Work.{jobs_of, job_content}}
use Rattle.office_reports.proofs.work.jobs_of.Given as goal

abbrev pub invariant-loop-container : goal.invariant-loop-container
invariant-loop-container l =
    map job_content l.jobs.items ++ jobs_of l.terminal (list_contents l.container-iterator) ≡ jobs_of l.terminal (list_contents l.initial.container-iterator)
