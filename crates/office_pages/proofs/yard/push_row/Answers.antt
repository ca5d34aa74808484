use Rattle.std.proofs.{Common.{◌++◌, ◌∷◌, [], ◌∙◌, codes, string_bytes}, lemmas.Result.on_ok_weaker}
use Rattle.office_pages.specs.Pieces.{Container, Markup, SizeText, SlotText, pieces_text}
use Rattle.office_pages.proofs.yard.push_row.Goals as goal

pub returns : goal.returns
returns c =
    let standing = c.args.standing in
    on_ok_weaker c.push_pieces.result
    (λ e. e ∙ (λ i. string_bytes c.args.page.now ++ pieces_text
    (Markup (codes "<tr><td class='m'>") ∷ SlotText standing.slot ∷ Markup (codes "</td><td>") ∷ Container standing.container
    ∷ Markup (codes "</td><td class='m'>") ∷ SizeText standing.size_type ∷ Markup (codes "</td><td>")
    ∷ Markup (c.load_mark.ensures i) ∷ Markup (codes "</td></tr>\n") ∷ [])))
    c.push_pieces.ensures
