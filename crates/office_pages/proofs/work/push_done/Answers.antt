use Rattle.std.proofs.{Common.{◌++◌, ◌∷◌, [], ap, ◌∙◌, codes, string_bytes}, lemmas.Result.on_ok_weaker}
use Rattle.office_reports.proofs.Markup.{onto}
use Rattle.office_pages.specs.{Marks.{bar, done_kind}, Pieces.{Markup, pieces_text}}
use Rattle.office_pages.proofs.work.push_done.Goals as goal

pub returns : goal.returns
returns c =
    let front = string_bytes c.args.page.now in
    let done = c.args.done in
    let whole = c.args.whole in
    let opens = pieces_text (Markup (codes "<p class='far'>") ∷ []) in
    let far = pieces_text (bar (done_kind done whole) done whole) in
    let page1 = string_bytes c.push_pieces.new.page in
    let page2 = string_bytes c.push_bar.new.page in
    let is2 = onto front opens far page1 page2 c.in_ok-push_pieces.ensures
    (c.in_ok-push_bar.ensures ∙ ap (λ kind. page1 ++ pieces_text (bar kind done whole)) c.done_kind.ensures) in
    on_ok_weaker c.push_pieces-2.result
    (λ last. onto front (opens ++ far) _ page2 (string_bytes c.push_pieces-2.new.page) is2 last)
    c.push_pieces-2.ensures
