use Rattle.office_replies.proofs.StreamLemmas.{streams_as}
use Rattle.office_commands.{specs.Delivering.Leads, proofs.{Alike.inner_leads, DeliverLemmas.delivered_over}}
use Rattle.office_commands.proofs.deliver.deliver_desk.Goals as goal

-- The desk was opened with a set-up that says the same as that of the files, so it answers as the files' office.
pub returns-clause-ends : goal.returns-clause-ends
returns-clause-ends g c image opens =
    let ends = c.deliver_noted.ensures.ends in
    let opened = c.args.office in
    let office = c.deliver_noted.result.1 in
    let is_sound = g.A.Archives.is_sound in
    let are = g.A.Archives.are in
    record {
      outcome = ends.outcome;
      status_is = ends.status_is;
      told = ends.told;
      ports_are = ends.ports_are;
      left = streams_as _ _
          (λ texts responses led. delivered_over g.S.Store is_sound are image (opened.desk, opened.archives) (office.desk, office.archives) opens texts responses
          (inner_leads (λ office. (office.desk, office.archives)) (Leads g.S.Store is_sound are) opened texts responses office led))
          _ ends.outcome ends.left;
    }
