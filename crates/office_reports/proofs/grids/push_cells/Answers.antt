use Rattle.std.proofs.{Common.{◌++◌, ◌∷◌, [], ap, ◌∙◌, codes, decimal, string_bytes}, lemmas.Result.on_ok_weaker}
use Rattle.office_reports.specs.{Fields.joined_pieces, Views.cells_view}
use Rattle.office_reports.proofs.grids.push_cells.Goals as goal

pub returns : goal.returns
unfolding cells_view
returns c =
    let letter = c.as_str.ensures.value ∙ c.in_ok-letter.ensures in
    let length = c.as_str-2.ensures.value ∙ c.in_ok-length.ensures.ok ∙ ap decimal c.length_of.ensures in
    let top = c.as_str-3.ensures.value ∙ c.in_ok-top.ensures.ok ∙ ap decimal c.top_of.ensures in
    let again = c.as_str-4.ensures.value ∙ c.in_ok-length.ensures.ok ∙ ap decimal c.length_of.ensures in
    on_ok_weaker c.push_all.result
    (λ e. e ∙ (λ i. string_bytes c.args.text.now ++ joined_pieces (codes "<svg class='parts'><g id='" ∷ letter i ∷ codes "'><path d='M0 0H" ∷ length i ∷ codes "V-" ∷ top i ∷ codes "H0Z' fill='url(#free)'/><path d='M-3 0H" ∷ again i ∷ codes "h3' stroke='#16263a'/>" ∷ [])))
    c.push_all.ensures
