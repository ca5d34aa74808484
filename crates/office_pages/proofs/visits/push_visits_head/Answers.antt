use Rattle.std.proofs.{Common.{◌++◌, ◌∷◌, [], ◌∙◌, codes, string_bytes}, lemmas.Result.on_ok_weaker}
use Rattle.office_pages.specs.Pieces.{Count, Markup, pieces_text}
use Rattle.office_pages.proofs.visits.push_visits_head.Goals as goal

pub returns : goal.returns
returns c =
    on_ok_weaker c.push_pieces.result
    (λ e. e ∙ (λ i. string_bytes c.args.page.now ++ pieces_text
    (Markup (codes "<section>\n<h2>Visits <small>") ∷ Count c.args.count ∷ Markup (c.visits_head.ensures i) ∷ [])))
    c.push_pieces.ensures
