use Rattle.std.proofs.Common.{◌≡◌, ◌++◌, map, take, string_bytes, flat_map}
use Rattle.office_reports.specs.Work.{job_content}
use Rattle.office_pages.specs.Work.{here_row}
use Rattle.office_pages.proofs.work_rows.push_here_rows.Given as goal

abbrev pub invariant-loop-job : goal.invariant-loop-job
invariant-loop-job l = string_bytes l.page ≡ string_bytes l.initial.page ++ flat_map here_row (map (λ job. job_content job.now) (take l.job-index l.rows))
