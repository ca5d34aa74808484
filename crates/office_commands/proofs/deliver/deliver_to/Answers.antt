use Rattle.office_commands.{specs.Ending.ports, proofs.StreamLemmas.ports_by}
use Rattle.office_commands.proofs.deliver.deliver_to.Goals as goal

pub returns-clause-ends : goal.returns-clause-ends
returns-clause-ends g c =
    let outcome = c.run_stream-outcome.result in
    let reader = c.args.reader.now in
    let writer = c.args.writer.now in
    let new = c.run_stream-outcome.new in
    let said = c.run_stream-outcome.ensures in
    record {
      outcome = outcome;
      status_is = c.tell_outcome.ensures.status;
      told = c.tell_outcome.ensures.told;
      ports_are = ports_by (ports reader writer) (ports new.reader new.writer) outcome said.failed said.sound said.flushed said.told;
      left = said.streams;
    }
