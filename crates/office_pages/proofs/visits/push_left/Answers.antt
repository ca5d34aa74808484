use Rattle.std.proofs.{Common.{◌++◌, ◌∷◌, [], FitsSigned, ap, ◌∙◌, codes, rules, string_bytes, w32}, lemmas.{Int.to_z-of_z, Result.on_ok_weaker}}
use Rattle.office_reports.proofs.Markup.{onto}
use Rattle.office_pages.specs.{Pieces.{Days, Markup, pieces_text}, Visits.passage_cell}
use Rattle.office_pages.proofs.visits.push_left.Goals as goal

pub returns : goal.returns
returns c =
    let front = string_bytes c.args.page.now in
    let page1 = string_bytes c.push_pieces.new.page in
    let page2 = string_bytes c.push_passage.new.page in
    let is2 = onto front _ _ page1 page2 c.in_ok-push_pieces.ensures
    (c.in_ok-push_passage.ensures ∙ ap (λ passage. page1 ++ passage_cell passage) c.passage_of-passage.ensures) in
    let fits : FitsSigned w32 c.days_until-days.result = search rules in
    let days = to_z-of_z w32 c.days_until-days.result fits ∙ c.days_until-days.ensures in
    on_ok_weaker c.push_pieces-2.result
    (λ e. onto front _ _ page2 (string_bytes c.push_pieces-2.new.page) is2
    (e ∙ (λ i. page2 ++ pieces_text (Markup (codes "<td class='n'>") ∷ Days (days i) ∷ Markup (codes "</td></tr>\n") ∷ []))))
    c.push_pieces-2.ensures
