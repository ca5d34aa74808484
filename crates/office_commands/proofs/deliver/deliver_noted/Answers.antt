use Rattle.office_replies.proofs.StreamLemmas.{streams_as}
use Rattle.office_commands.proofs.Alike.{delivered_by}
use Rattle.office_commands.proofs.deliver.deliver_noted.Goals as goal

-- What stands around the desk asks it, and adds nothing.
pub returns-clause-ends : goal.returns-clause-ends
returns-clause-ends g c =
    let ends = c.deliver_to-status.ensures.ends in
    let before = c.new-noted.result in
    let after = c.deliver_to-status.new.desk in
    record {
      outcome = ends.outcome;
      status_is = ends.status_is;
      told = ends.told;
      ports_are = ends.ports_are;
      left = streams_as _ _
          (delivered_by (λ noted. noted.desk) g.D.Deliver.leads before after c.args.desk c.into_desk.result c.new-noted.ensures c.into_desk.ensures)
          _ ends.outcome ends.left;
    }
