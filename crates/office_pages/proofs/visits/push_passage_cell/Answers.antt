use Rattle.std.proofs.{Common.{◌++◌, ◌∷◌, [], ◌∙◌, codes, string_bytes}, lemmas.Result.on_ok_weaker}
use Rattle.office_pages.specs.Pieces.{Markup, MomentText, Reply, pieces_text}
use Rattle.office_pages.proofs.visits.push_passage_cell.Goals as goal

pub returns : goal.returns
returns c =
    on_ok_weaker c.push_pieces.result
    (λ e. e ∙ (λ i. string_bytes c.args.page.now ++ pieces_text
    (Markup (c.way_word.ensures i) ∷ Markup (codes ", ") ∷ Reply c.args.partner.now c.args.number
    ∷ Markup (codes "<br><span class='note'>") ∷ MomentText c.args.moment ∷ Markup (codes "</span></td>") ∷ [])))
    c.push_pieces.ensures
