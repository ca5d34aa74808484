use Rattle.std.{specs.{BTreeMap.insert_entry, Ordering.nat_cmp, Cmp.Lexicographic.slice_cmp}, proofs.Common.{sym, ap, ◌∙◌}}
use Rattle.office_reports.{specs.Work.{job_content, placed_contents, with_job}, proofs.CallLemmas.contents_inserted}
use Rattle.office_reports.proofs.work.put_job.Goals as goal

pub returns-in_ok-insert-in-Some : goal.returns-in_ok-insert-in-Some
returns-in_ok-insert-in-Some c =
    let old = c.args.places.now.entries in
    ap placed_contents c.in_ok-insert-in-Some.ensures.entries ∙ contents_inserted (slice_cmp nat_cmp) old c.work_place-place.result c.args.job
    ∙ ap (λ place. insert_entry (slice_cmp nat_cmp) (placed_contents old) place (job_content c.args.job.now)) c.work_place-place.ensures
    ∙ sym (ap (with_job (placed_contents old) (job_content c.args.job.now)) c.in-Some.is)
