use Rattle.std.proofs.{Common.{◌∷◌, [], ◌∙◌}, lemmas.Result.IfOk-weaker}
use Rattle.office_reports.specs.Names.{phrase}
use Rattle.office_reports.proofs.passages.passage_text.Goals as goal

pub returns : goal.returns
returns c =
    let number = c.as_str.ensures.value ∙ c.in_ok-number.ensures.ok in
    let moment = c.as_str-2.ensures.value ∙ c.in_ok-moment.ensures in
    IfOk-weaker c.passage_phrase.result _ _ (λ text e. e ∙ (λ i. phrase (c.way_name.ensures i ∷ c.args.passage.now.partner.now ∷ number i ∷ moment i ∷ []))) c.passage_phrase.ensures
