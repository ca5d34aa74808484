use Rattle.std.proofs.{Common.{◌++◌, ◌∷◌, [], ap, ◌∙◌, codes, string_bytes}, lemmas.Result.on_ok_weaker}
use Rattle.office_reports.proofs.Markup.{onto}
use Rattle.office_pages.specs.{Pieces.{Count, Markup, pieces_text}, Reply.container_cell}
use Rattle.office_pages.proofs.reply_lines.push_line_row.Goals as goal

pub returns : goal.returns
returns c =
    let front = string_bytes c.args.page.now in
    let page1 = string_bytes c.push_pieces.new.page in
    let page2 = string_bytes c.push_container.new.page in
    let page3 = string_bytes c.push_pieces-2.new.page in
    let page4 = string_bytes c.push_outcome.new.page in
    let is1 = c.in_ok-push_pieces.ensures ∙ (λ i. front ++ pieces_text
    (Markup (codes "<tr><td class='n'>") ∷ Count (c.number_in.ensures i) ∷ Markup (codes "</td><td>") ∷ [])) in
    let is2 = onto front _ _ page1 page2 is1
    (c.in_ok-push_container.ensures ∙ ap (λ number. page1 ++ container_cell number) c.text_in.ensures) in
    let is3 = onto front _ _ page2 page3 is2 c.in_ok-push_pieces-2.ensures in
    let is4 = onto front _ _ page3 page4 is3 c.in_ok-push_outcome.ensures in
    on_ok_weaker c.push_pieces-3.result
    (λ e. onto front _ _ page4 (string_bytes c.push_pieces-3.new.page) is4 e)
    c.push_pieces-3.ensures
