use Rattle.std.proofs.{Common.{◌++◌, ◌∷◌, [], ◌∙◌, codes, string_bytes}, lemmas.Result.on_ok_weaker}
use Rattle.office_pages.specs.Pieces.{Markup, MomentText, Reply, pieces_text}
use Rattle.office_pages.proofs.container.push_passage_fact.Goals as goal

pub returns : goal.returns
returns c =
    on_ok_weaker c.push_pieces.result
    (λ e. e ∙ (λ i. string_bytes c.args.page.now ++ pieces_text
    (Markup (codes "<dt>") ∷ Markup c.args.label.now ∷ Markup (codes "</dt><dd>by ") ∷ Markup (c.way_word.ensures i)
    ∷ Markup (codes ", ") ∷ Reply c.args.partner.now c.args.number ∷ Markup (codes ", ") ∷ MomentText c.args.moment
    ∷ Markup (codes "</dd>\n") ∷ [])))
    c.push_pieces.ensures
