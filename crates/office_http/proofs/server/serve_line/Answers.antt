use Rattle.std.proofs.Common.{◌∙◌}
use Rattle.office_http.proofs.Serving.{own_bytes}
use Rattle.office_http.proofs.server.serve_line.Goals as goal

pub returns-clause-serves : goal.returns-clause-serves
returns-clause-serves g c =
    own_bytes g.D.Deliver.leads g.D.AddAccount.enrols g.D.Report.looks c.args.site.now c.args.ahead c.new-reader.result.inner.now.inner.left.now c.args.ready.asked.items
    c.args.desk.now c.serve_one-outcome.new.desk c.serve_one-outcome.result _ _ _ _
    ((λ i. (c.new-reader.ensures.inner i).now.inner.left.now) ∙ (λ i. (c.new-asked.ensures.inner i).left.now) ∙ c.inlet.ensures.left)
    c.serve_one-outcome.ensures.err c.serve_one-outcome.ensures.serves
