use Rattle.std.proofs.{Common.{◌++◌, ◌∷◌, [], ◌∙◌, codes, string_bytes}, lemmas.Result.on_ok_weaker}
use Rattle.office_reports.specs.Names.{line}
use Rattle.office_reports.proofs.interchange_lines.push_waiting_head.Goals as goal

pub returns : goal.returns
returns c =
    let digits = c.as_str.ensures.value ∙ c.in_ok-digits.ensures.ok in
    let next = c.as_str-2.ensures.value ∙ c.in_ok-next.ensures.ok in
    on_ok_weaker c.push_line.result
    (λ e. e ∙ (λ i. string_bytes c.args.text.now
    ++ line (codes "INTERCHANGE" ∷ c.args.code.now ∷ digits i ∷ codes "WAITING" ∷ codes "FOR" ∷ next i ∷ [])))
    c.push_line.ensures
