use Rattle.office_history.proofs.Lawful.{opening_after}
use Rattle.office_history.proofs.laws.opening_is_after_none.Goals as goal

pub returns : goal.returns
returns c = opening_after
