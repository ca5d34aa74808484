use Rattle.std.proofs.{Common.{◌++◌, ◌∷◌, [], ap, ◌∙◌, codes, decimal, string_bytes}, lemmas.Result.on_ok_weaker}
use Rattle.office_reports.specs.{Fields.joined_pieces, Views.part_view}
use Rattle.office_reports.proofs.grids.push_part.Goals as goal

pub returns : goal.returns
unfolding part_view
returns c =
    let top = c.as_str.ensures.value ∙ c.in_ok-top.ensures.ok ∙ ap decimal c.top_of.ensures in
    let width = c.as_str-2.ensures.value ∙ c.in_ok-width.ensures.ok ∙ ap decimal c.part_width.ensures in
    let height = c.as_str-3.ensures.value ∙ c.in_ok-height.ensures.ok ∙ ap decimal c.height_of.ensures in
    let again = c.as_str-4.ensures.value ∙ c.in_ok-width.ensures.ok ∙ ap decimal c.part_width.ensures in
    let letter = c.as_str-5.ensures.value ∙ c.in_ok-letter.ensures in
    let row = c.as_str-6.ensures.value ∙ c.in_ok-row.ensures.ok in
    let start = c.as_str-7.ensures.value ∙ c.in_ok-start.ensures.ok ∙ ap decimal c.start_of.ensures in
    on_ok_weaker c.push_all.result
    (λ e. e ∙ (λ i. string_bytes c.args.text.now ++ joined_pieces (codes "<svg class='paper' viewBox='-22 -" ∷ top i ∷ codes " " ∷ width i ∷ codes " " ∷ height i ∷ codes "' width='" ∷ again i ∷ codes "'><use href='#" ∷ letter i ∷ codes "-" ∷ row i ∷ codes "' x='-" ∷ start i ∷ codes "'/></svg>\n" ∷ [])))
    c.push_all.ensures
