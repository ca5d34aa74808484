use Rattle.std.proofs.{Common.{◌++◌, ◌∷◌, [], ◌∙◌, codes, string_bytes}, lemmas.Result.on_ok_weaker}
use Rattle.office_reports.specs.{Fields.joined_pieces, Views.block_link}
use Rattle.office_reports.proofs.grids.push_link.Goals as goal

pub returns : goal.returns
unfolding block_link
returns c =
    let target = c.as_str.ensures.value ∙ c.in_ok-letter.ensures in
    let name = c.as_str-2.ensures.value ∙ c.in_ok-letter.ensures in
    on_ok_weaker c.push_all.result
    (λ e. e ∙ (λ i. string_bytes c.args.text.now ++ joined_pieces (codes "<a href='#block-" ∷ target i ∷ codes "'>Block " ∷ name i ∷ codes "</a>\n" ∷ [])))
    c.push_all.ensures
