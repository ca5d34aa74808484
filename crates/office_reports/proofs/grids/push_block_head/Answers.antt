use Rattle.std.proofs.{Common.{◌++◌, ◌∷◌, [], ap, ◌∙◌, codes, decimal, string_bytes}, lemmas.Result.on_ok_weaker}
use Rattle.office_reports.specs.{Fields.joined_pieces, Views.block_head}
use Rattle.office_reports.proofs.grids.push_block_head.Goals as goal

pub returns : goal.returns
unfolding block_head
returns c =
    let target = c.as_str.ensures.value ∙ c.in_ok-letter.ensures in
    let name = c.as_str-2.ensures.value ∙ c.in_ok-letter.ensures in
    let used = c.as_str-3.ensures.value ∙ c.in_ok-used.ensures.ok ∙ ap decimal c.used_cells.ensures in
    let cells = c.as_str-4.ensures.value ∙ c.in_ok-cells.ensures.ok ∙ ap decimal c.cells_of.ensures in
    on_ok_weaker c.push_all.result
    (λ e. e ∙ (λ i. string_bytes c.args.text.now ++ joined_pieces (codes "<section id='block-" ∷ target i ∷ codes "'><h2>Block " ∷ name i ∷ codes "<small>" ∷ used i ∷ codes " of " ∷ cells i ∷ codes " cells used</small></h2>\n" ∷ [])))
    c.push_all.ensures
