use Rattle.std.proofs.lemmas.Result.{IfOk-weaker}
use Rattle.office_http.proofs.site.Site.explain.Goals as goal

pub returns : goal.returns
returns c = IfOk-weaker c.explain_file.result _ _ (λ explanation is. (c.self.inside.partners, c.self.invariant.1, is)) c.explain_file.ensures
