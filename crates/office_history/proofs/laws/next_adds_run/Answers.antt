use Rattle.office_history.proofs.Lawful.{next_adds}
use Rattle.office_history.proofs.laws.next_adds_run.Goals as goal

pub returns : goal.returns
returns c = next_adds
