use Rattle.std.proofs.{Common.{◌++◌, ◌∷◌, [], ◌∙◌, codes, string_bytes}, lemmas.Result.on_ok_weaker}
use Rattle.office_pages.specs.Pieces.{Kilos, Markup, SizeText, SlotText, Text, pieces_text}
use Rattle.office_pages.proofs.visits.push_stay.Goals as goal

pub returns : goal.returns
returns c =
    let visit = c.args.visit.now in
    on_ok_weaker c.push_pieces.result
    (λ e. e ∙ (λ i. string_bytes c.args.page.now ++ pieces_text
    (Markup (codes "<td class='o'><span class='m'>") ∷ SizeText visit.size_type ∷ Markup (codes "</span> ")
    ∷ Markup (c.load_mark.ensures i) ∷ Markup (codes "</td><td class='m o'>") ∷ SlotText visit.arrival.slot
    ∷ Markup (codes "</td><td class='o'>") ∷ Text (c.as_str.ensures.value i) ∷ Markup (codes "</td><td class='n o'>")
    ∷ Kilos visit.kilos ∷ Markup (codes "</td>") ∷ [])))
    c.push_pieces.ensures
