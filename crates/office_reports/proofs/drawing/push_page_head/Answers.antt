use Rattle.std.proofs.{Common.{◌++◌, ◌∷◌, [], ap, ◌∙◌, codes, decimal, string_bytes}, lemmas.Result.on_ok_weaker}
use Rattle.office_reports.specs.{Fields.{field_text, joined_pieces}, Picture.page_head}
use Rattle.office_reports.proofs.drawing.push_page_head.Goals as goal

pub returns : goal.returns
unfolding page_head
returns c =
    let title = c.as_str.ensures.value ∙ c.in_ok-name.ensures ∙ ap field_text c.as_bytes.ensures.value in
    let heading = c.as_str-2.ensures.value ∙ c.in_ok-name.ensures ∙ ap field_text c.as_bytes.ensures.value in
    let all = c.as_str-3.ensures.value ∙ c.in_ok-all.ensures.ok in
    let full = c.as_str-4.ensures.value ∙ c.in_ok-full.ensures.ok ∙ ap decimal c.full_count.ensures in
    let empty = c.as_str-5.ensures.value ∙ c.in_ok-empty.ensures.ok ∙ ap decimal c.empty_count.ensures in
    on_ok_weaker c.push_all.result
    (λ e. e ∙ (λ i. string_bytes c.args.text.now ++ joined_pieces (c.head.ensures i ∷ codes "<title>Yard of " ∷ title i ∷ codes "</title>\n" ∷ c.shapes.ensures i ∷ codes "<h1>Yard of " ∷ heading i ∷ codes "</h1>\n<p><b>" ∷ all i ∷ codes "</b> containers: <b>" ∷ full i ∷ codes "</b> full, <b>" ∷ empty i ∷ codes "</b> empty</p>\n" ∷ [])))
    c.push_all.ensures
