use Rattle.std.proofs.{Common.{◌++◌, ◌∷◌, [], ap, ◌∙◌, codes, decimal, string_bytes}, lemmas.Result.on_ok_weaker}
use Rattle.office_reports.specs.{Fields.joined_pieces, Views.row_head}
use Rattle.office_reports.proofs.grids.push_row_head.Goals as goal

pub returns : goal.returns
unfolding row_head
returns c =
    let row = c.as_str.ensures.value ∙ c.in_ok-row.ensures.ok in
    let top = c.as_str-2.ensures.value ∙ c.in_ok-top.ensures.ok ∙ ap decimal c.top_of.ensures in
    let width = c.as_str-3.ensures.value ∙ c.in_ok-width.ensures.ok ∙ ap decimal c.width_of.ensures in
    let height = c.as_str-4.ensures.value ∙ c.in_ok-height.ensures.ok ∙ ap decimal c.height_of.ensures in
    let again = c.as_str-5.ensures.value ∙ c.in_ok-width.ensures.ok ∙ ap decimal c.width_of.ensures in
    let letter = c.as_str-6.ensures.value ∙ c.in_ok-letter.ensures in
    let row-2 = c.as_str-7.ensures.value ∙ c.in_ok-row.ensures.ok in
    let letter-2 = c.as_str-8.ensures.value ∙ c.in_ok-letter.ensures in
    on_ok_weaker c.push_all.result
    (λ e. e ∙ (λ i. string_bytes c.args.text.now ++ joined_pieces (codes "<figure><figcaption>Row " ∷ row i ∷ codes "</figcaption><svg class='row' viewBox='-22 -" ∷ top i ∷ codes " " ∷ width i ∷ codes " " ∷ height i ∷ codes "' width='" ∷ again i ∷ codes "'><g id='" ∷ letter i ∷ codes "-" ∷ row-2 i ∷ codes "'><use href='#" ∷ letter-2 i ∷ codes "'/>\n" ∷ [])))
    c.push_all.ensures
