use Rattle.std.proofs.{Common.{◌++◌, ◌∷◌, [], ◌∙◌, codes, string_bytes}, lemmas.Result.on_ok_weaker}
use Rattle.office_pages.specs.Pieces.{Markup, Part, pieces_text}
use Rattle.office_pages.proofs.calls.push_list.Goals as goal

pub returns : goal.returns
returns c =
    on_ok_weaker c.push_pieces.result
    (λ e. e ∙ (λ i. string_bytes c.args.page.now ++ pieces_text
    (Markup (codes "<td><a href='/pages/lists/") ∷ Part c.args.vessel.now ∷ Markup (codes "/") ∷ Part c.args.voyage.now
    ∷ Markup (codes "/") ∷ Markup (c.side_word.ensures i) ∷ Markup (codes "'>List</a></td></tr>\n") ∷ [])))
    c.push_pieces.ensures
