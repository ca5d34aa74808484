use Rattle.std.proofs.{Common.{◌++◌, ◌∷◌, [], ◌∙◌, codes, string_bytes}, lemmas.Result.on_ok_weaker}
use Rattle.office_pages.specs.Pieces.{Container, Markup, SizeText, pieces_text}
use Rattle.office_pages.proofs.tickets.push_visit.Goals as goal

pub returns : goal.returns
returns c =
    let visit = c.args.visit.now in
    on_ok_weaker c.push_pieces.result
    (λ e. e ∙ (λ i. string_bytes c.args.page.now ++ pieces_text
    (Markup (codes "<tr><td>") ∷ Container visit.container ∷ Markup (codes "</td><td class='m'>") ∷ SizeText visit.size_type
    ∷ Markup (codes "</td><td>") ∷ Markup (c.load_mark.ensures i) ∷ Markup (codes "</td><td") ∷ [])))
    c.push_pieces.ensures
