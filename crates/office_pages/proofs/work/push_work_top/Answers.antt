use Rattle.std.proofs.{Common.{◌++◌, ◌∷◌, [], ◌∙◌, codes, string_bytes, true}, lemmas.Result.on_ok_weaker}
use Rattle.office_reports.proofs.Markup.{onto}
use Rattle.office_pages.specs.{Frame.page_top, Pieces.{Markup, Text}, Work.work_title}
use Rattle.office_pages.proofs.work.push_work_top.Goals as goal

pub returns : goal.returns
returns c =
    let front = string_bytes c.args.page.now in
    let vessel = c.args.vessel.now in
    let voyage = c.args.voyage.now in
    on_ok_weaker c.push_title.result
    (λ title. onto front _ (work_title vessel voyage c.args.side) (string_bytes c.push_top.new.page) (string_bytes c.push_title.new.page)
    (c.in_ok-push_top.ensures ∙ (λ i. front ++ page_top (codes "/pages/calls") true
    (Markup (c.side_name.ensures i) ∷ Markup (codes " work of ") ∷ Text vessel ∷ Markup (codes " ") ∷ Text voyage ∷ [])))
    title)
    c.push_title.ensures
