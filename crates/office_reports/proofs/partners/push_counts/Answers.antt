use Rattle.std.proofs.{Common.{◌++◌, ◌∷◌, [], sym, ap, ◌∙◌, codes, decimal, string_bytes}, lemmas.List.length-map, lemmas.Result.on_ok_weaker}
use Rattle.office_reports.specs.{Names.line, Partners.row_content}
use Rattle.office_reports.proofs.partners.push_counts.Goals as goal

pub returns : goal.returns
returns c =
    let count = c.as_str.ensures.value ∙ c.in_ok-count.ensures.ok ∙ ap decimal (sym (length-map c.args.rows.now row_content)) in
    let waiting = c.as_str-2.ensures.value ∙ c.in_ok-waiting.ensures.ok in
    on_ok_weaker c.push_line.result
    (λ e. e ∙ (λ i. string_bytes c.args.text.now ++ line (count i ∷ codes "PARTNERS" ∷ waiting i ∷ codes "WAITING" ∷ [])))
    c.push_line.ensures
