use Rattle.office_closing.proofs.PlanLemmas.{the_rest}
use Rattle.office_closing.proofs.laws.clearing_leaves_the_rest.Goals as goal

pub returns : goal.returns
returns c = the_rest
