use Rattle.std.proofs.Common.{◌∙◌, ap}
use Rattle.office_commands.{specs.Ending.Tells, proofs.ServingLemmas.{ends_inner, named_enrols, named_leads}}
use Rattle.office_commands.proofs.serving.serve_named.Goals as goal

-- What stands around the desk asks it, or answers `not now`.
pub returns : goal.returns
returns g c =
    let before = c.new-noted.result in
    let after = c.serve_at-status.new.desk in
    let leads = g.D.Deliver.leads in
    let enrols = g.D.AddAccount.enrols in
    let writer = c.serve_at-status.new.writer in
    let errors = c.serve_at-status.new.errors in
    ends_inner c.args.service.port c.args.service.count c.args.writer.now writer (g.W.Write.contents c.args.writer.now.inner) (g.W.Write.contents writer.inner)
    (Tells errors.failed (g.E.Write.contents c.args.errors.now.inner) (g.E.Write.contents errors.inner))
    (λ noted. noted.desk.desk) _ _ leads enrols g.D.Report.looks before after c.serve_at-status.result c.serve_at-status.ensures
    c.args.desk _ (ap (λ named. named.desk) c.new-noted.ensures ∙ c.new-named.ensures) (ap (λ named. named.desk) c.into_desk.ensures)
    (λ o text given n led. named_leads leads _ _ n.desk.is_nameless o.desk.desk text given n.desk.desk led)
    (λ o code kind given n led. named_enrols enrols _ _ n.desk.is_nameless o.desk.desk code kind given n.desk.desk led)
