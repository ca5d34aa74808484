use Rattle.office_closing.proofs.StandLemmas.{closed_stands}
use Rattle.office_closing.proofs.laws.closed_stores_stand.Goals as goal

pub returns : goal.returns
returns c = closed_stands
