use Rattle.std.proofs.{Common.{◌++◌, ap, ◌∙◌, string_bytes}, lemmas.Result.on_ok_weaker}
use Rattle.office_reports.proofs.Markup.{onto}
use Rattle.office_pages.specs.Visits.{passage_cell}
use Rattle.office_pages.proofs.visits.push_row.Goals as goal

pub returns : goal.returns
returns c =
    let front = string_bytes c.args.page.now in
    let page1 = string_bytes c.push_pieces.new.page in
    let page2 = string_bytes c.push_passage.new.page in
    let page3 = string_bytes c.push_stay.new.page in
    let is2 = onto front _ _ page1 page2 c.in_ok-push_pieces.ensures
    (c.in_ok-push_passage.ensures ∙ ap (λ passage. page1 ++ passage_cell passage) c.passage_of-passage.ensures) in
    let is3 = onto front _ _ page2 page3 is2 c.in_ok-push_stay.ensures in
    on_ok_weaker c.push_exit.result
    (λ e. onto front _ _ page3 (string_bytes c.push_exit.new.page) is3 e)
    c.push_exit.ensures
