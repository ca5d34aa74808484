use Rattle.office_commands.{specs.{Delivering.Leads, Ending.Tells, ServingBeside.{Enrols, Looks}}, proofs.ServeLemmas.{served_inner, served_over}}
use Rattle.office_commands.proofs.ServingLemmas.{ends_as}
use Rattle.office_commands.proofs.serving.serve_desk.Goals as goal

-- What was served of the office is said of the files.
pub returns : goal.returns
returns g c image opens =
    let opened = c.args.office in
    let office = c.serve_named.result.1.desk in
    let is_sound = g.A.Archives.is_sound in
    let are = g.A.Archives.are in
    let writer = c.serve_named.new.writer in
    let errors = c.serve_named.new.errors in
    ends_as c.args.service.port c.args.service.count c.args.writer.now writer (g.W.Write.contents c.args.writer.now.inner) (g.W.Write.contents writer.inner)
    (Tells errors.failed (g.E.Write.contents c.args.errors.now.inner) (g.E.Write.contents errors.inner)) _ _ c.serve_named.result.0
    (λ most served. served_over g.S.Store is_sound are image most (opened.desk, opened.archives) (office.desk, office.archives) opens
    (served_inner (λ office. (office.desk, office.archives)) (Leads g.S.Store is_sound are) (Enrols g.S.Store is_sound are) (Looks g.S.Store is_sound are) most opened office served))
    c.serve_named.ensures
