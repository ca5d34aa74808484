use Rattle.std.proofs.{Common.{◌++◌, ◌∙◌, map, string_bytes}, lemmas.Result.on_ok_weaker}
use Rattle.office_reports.{specs.Work.{in_order, job_content, work_content}, proofs.Markup.onto}
use Rattle.office_pages.specs.Work.{sections}
use Rattle.office_pages.proofs.work.push_work.Goals as goal

pub returns : goal.returns
returns c =
    let front = string_bytes c.args.page.now in
    let work = work_content c.args.report.now in
    let page1 = string_bytes c.push_done.new.page in
    on_ok_weaker c.push_sections.result
    (λ e. onto front _ _ page1 (string_bytes c.push_sections.new.page) c.in_ok-push_done.ensures
    (e ∙ (λ i. page1 ++ sections work.side (map job_content (c.deref-2.ensures.value i))
    (map (λ job. job_content job.now) (c.deref-3.ensures.value i)))
    ∙ (λ i. page1 ++ sections work.side work.jobs (c.in_ok-rows.ensures i))
    ∙ (λ i. page1 ++ sections work.side work.jobs (in_order work.side (map job_content (c.deref.ensures.value i))))))
    c.push_sections.ensures
