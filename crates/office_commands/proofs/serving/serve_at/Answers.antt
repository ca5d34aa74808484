use Rattle.std.proofs.Common.{◌∙◌, inr, refl}
use Rattle.office_http.{specs.Served.AtMost, proofs.Serving.none_yet}
use Rattle.office_commands.{specs.Ending.Tells, proofs.ServingLemmas.{ends_by, tells_none}}
use Rattle.office_commands.proofs.serving.serve_at.Goals as goal

pub returns-in-Some : goal.returns-in-Some
returns-in-Some g c =
    let old = c.args.writer.now in
    let mid = c.listen.new.writer in
    let new = c.print.new.writer in
    let heard = c.listen.new.errors in
    let listens = c.in-Some.ensures.listens in
    ends_by c.args.service.port c.args.service.count old mid new (g.W.Write.contents old.inner) (g.W.Write.contents mid.inner) (g.W.Write.contents new.inner)
    (Tells heard.failed (g.E.Write.contents c.args.errors.now.inner) (g.E.Write.contents heard.inner))
    (λ most. AtMost g.D.Deliver.leads g.D.AddAccount.enrols g.D.Report.looks most c.args.desk.now c.serve_on.new.desk)
    _ _ (c.as_str.ensures.value ∙ listens.0) listens.1 listens.2
    (tells_none g.E.Write.contents c.args.errors.now heard listens.3) c.serve_on.ensures.steps c.print.ensures

-- it can't listen, or printing failed
pub returns-in-None : goal.returns-in-None
returns-in-None g c =
    inr (inr (refl, c.in-None.ensures.deaf refl, none_yet g.D.Deliver.leads g.D.AddAccount.enrols g.D.Report.looks 0 c.args.desk.now))
