use Rattle.office_closing.proofs.StoppingLemmas.{stopped_goes_on}
use Rattle.office_closing.proofs.laws.stopped_closings_go_on.Goals as goal

pub returns : goal.returns
returns c = stopped_goes_on
