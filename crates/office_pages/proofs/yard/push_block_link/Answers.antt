use Rattle.std.proofs.{Common.{◌++◌, ◌∷◌, [], ap, ◌∙◌, codes, string_bytes}, lemmas.{Bool.ne_eqb, Result.on_ok_weaker}}
use Rattle.office_pages.specs.{Pieces.{Count, Letter, LetterPart, Markup, pieces_text}, Yard.chosen}
use Rattle.office_pages.proofs.yard.push_block_link.Goals as goal

pub returns : goal.returns
returns c =
    let letter = c.args.letter in
    let marked = c.chosen.ensures ∙ ap chosen c.is_shown.ensures in
    rw (ne_eqb c.args.count 0 c.if-count-eq0.false)
    (on_ok_weaker c.push_pieces.result
    (λ e. e ∙ (λ i. string_bytes c.args.page.now ++ pieces_text
    (Markup (codes "<a href='/pages/yard/") ∷ LetterPart letter ∷ Markup (codes "'") ∷ Markup (marked i) ∷ Letter letter
    ∷ Markup (codes " ") ∷ Count c.args.count ∷ Markup (codes "</a>\n") ∷ [])))
    c.push_pieces.ensures)
