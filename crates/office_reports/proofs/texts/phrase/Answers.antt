use Rattle.std.proofs.{Common.{◌∙◌, List, ℕ, Bor, codes}, lemmas.Result.IfOk-weaker}
use Rattle.office_reports.{specs.Names.phrase, proofs.Standings.joined}
use Rattle.office_reports.proofs.texts.phrase.Goals as goal

pub returns : goal.returns
unfolding phrase
returns c = IfOk-weaker c.join.result _ _ (λ text e. e ∙ joined (λ (word : Bor (List ℕ)). word.now) (codes " ") c.args.words.now) c.join.ensures.ok
