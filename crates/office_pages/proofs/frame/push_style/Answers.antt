use Rattle.std.proofs.{Common.{◌++◌, ◌∷◌, [], ◌∙◌, codes, string_bytes}, lemmas.Result.on_ok_weaker}
use Rattle.office_pages.specs.{Frame.style_pieces, Pieces.{Markup, pieces_text}}
use Rattle.office_pages.proofs.frame.push_style.Goals as goal

pub returns : goal.returns
unfolding style_pieces
returns c =
    on_ok_weaker c.push_pieces.result
    (λ e. e ∙ (λ i. string_bytes c.args.page.now ++ pieces_text
    (Markup (c.opening.ensures i) ∷ Markup (c.colours.ensures i) ∷ Markup (c.outline.ensures i) ∷ Markup (c.parts.ensures i)
    ∷ Markup (c.sheets.ensures i) ∷ Markup (codes "</style>\n") ∷ Markup (c.again.ensures i) ∷ Markup (codes "<title>") ∷ [])))
    c.push_pieces.ensures
