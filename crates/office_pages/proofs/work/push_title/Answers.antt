use Rattle.std.proofs.{Common.{◌++◌, ◌∷◌, [], ◌∙◌, codes, string_bytes}, lemmas.Result.on_ok_weaker}
use Rattle.office_pages.specs.Pieces.{Markup, Part, Text, pieces_text}
use Rattle.office_pages.proofs.work.push_title.Goals as goal

pub returns : goal.returns
returns c =
    let vessel = c.args.vessel.now in
    let voyage = c.args.voyage.now in
    on_ok_weaker c.push_pieces.result
    (λ e. e ∙ (λ i. string_bytes c.args.page.now ++ pieces_text
    (Markup (codes "<h1><small>") ∷ Markup (c.side_name.ensures i) ∷ Markup (codes " work of</small> ") ∷ Text vessel
    ∷ Markup (codes " ") ∷ Text voyage ∷ Markup (codes "</h1>\n<p class='beside'><a href='/pages/lists/") ∷ Part vessel
    ∷ Markup (codes "/") ∷ Part voyage ∷ Markup (codes "/") ∷ Markup (c.side_word.ensures i)
    ∷ Markup (codes "'>The whole list</a></p>\n") ∷ [])))
    c.push_pieces.ensures
