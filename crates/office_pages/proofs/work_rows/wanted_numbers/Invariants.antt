use Rattle.std.{specs.{BTreeSet.contains, Cmp.Lexicographic.slice_cmp, Ordering.nat_cmp}, proofs.Common.{◌≡◌, ℕ, List, map, take}}
use Rattle.office_reports.specs.Work.{job_content}
use Rattle.office_pages.specs.Work.{is_wanted}
use Rattle.office_pages.proofs.work_rows.wanted_numbers.Given as goal

abbrev pub invariant-loop-job : goal.invariant-loop-job
invariant-loop-job l = (container : List ℕ) → contains (slice_cmp nat_cmp) l.numbers container ≡ is_wanted (map job_content (take l.job-index l.jobs)) container
