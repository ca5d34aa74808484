use Rattle.std.{specs.{BTreeSet.contains, Cmp.Lexicographic.slice_cmp, Ordering.nat_cmp}, proofs.{Common.{◌++◌, ap, sym, ◌∙◌, string_bytes}, lemmas.Result.on_ok_weaker}}
use Rattle.office_reports.specs.Work.{job_content}
use Rattle.office_pages.specs.Work.{blocked_row, blocker_note, covered_row_by}
use Rattle.office_pages.proofs.work_rows.push_covered_row.Goals as goal

pub returns-in-Some-Some : goal.returns-in-Some-Some
returns-in-Some-Some c =
    let arm = c.in-Some-Some in
    let front = string_bytes c.args.page.now in
    let job = job_content c.args.job.now in
    let wanted = contains (slice_cmp nat_cmp) c.args.wanted.now in
    let note = c.blocker_note-note.ensures ∙ ap blocker_note c.contains.ensures in
    on_ok_weaker c.push_blocked.result
    (λ e. e ∙ (λ i. front ++ blocked_row job arm.standing arm.blocker (note i))
    ∙ (λ i. front ++ covered_row_by wanted job (sym arm.is-0 i) (sym arm.is-1 i)))
    c.push_blocked.ensures
