use Rattle.office_closing.proofs.PlanLemmas.{carried_on}
use Rattle.office_closing.proofs.laws.cleared_is_carried.Goals as goal

pub returns : goal.returns
returns c = carried_on
