use Rattle.std.proofs.{Common.{◌++◌, ◌∷◌, [], ◌∙◌, codes, string_bytes}, lemmas.Result.on_ok_weaker}
use Rattle.office_reports.specs.Names.{line}
use Rattle.office_reports.proofs.partners.push_waited_for.Goals as goal

pub returns : goal.returns
returns c =
    let kind = c.kind_name.ensures in
    let next = c.as_str.ensures.value ∙ c.in_ok-next.ensures.ok in
    let count = c.as_str-2.ensures.value ∙ c.in_ok-count.ensures.ok in
    let first = c.as_str-3.ensures.value ∙ c.in_ok-first.ensures.ok in
    let last = c.as_str-4.ensures.value ∙ c.in_ok-last.ensures.ok in
    let missing = c.as_str-5.ensures.value ∙ c.in_ok-next.ensures.ok in
    on_ok_weaker c.push_line.result
    (λ e. e ∙ (λ i. string_bytes c.args.text.now ++ line (c.args.code.now ∷ kind i ∷ codes "NEXT" ∷ next i ∷ codes "WAITING" ∷ count i ∷ codes "FROM" ∷ first i ∷ codes "TO" ∷ last i ∷ codes "MISSING" ∷ missing i ∷ [])))
    c.push_line.ensures
