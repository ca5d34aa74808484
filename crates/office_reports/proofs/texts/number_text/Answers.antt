use Rattle.std.proofs.{Common.◌∙◌, lemmas.Result.IfOk-weaker}
use Rattle.office_reports.proofs.Standings.{number_same}
use Rattle.office_reports.proofs.texts.number_text.Goals as goal

pub returns : goal.returns
returns c = IfOk-weaker c.text_of.result _ _ (λ text e. e ∙ number_same c.text.result c.text.ensures.number ∙ c.text.ensures.same) c.text_of.ensures
