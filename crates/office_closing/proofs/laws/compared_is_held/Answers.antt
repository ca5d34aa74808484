use Rattle.office_closing.proofs.PlanLemmas.{compared}
use Rattle.office_closing.proofs.laws.compared_is_held.Goals as goal

pub returns : goal.returns
returns c = compared
