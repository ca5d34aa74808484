use Rattle.office_history.proofs.Accounted.{next_follows}
use Rattle.office_history.proofs.laws.next_follows_run.Goals as goal

pub returns : goal.returns
returns c = next_follows
