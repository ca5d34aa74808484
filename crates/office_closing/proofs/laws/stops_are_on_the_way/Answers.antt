use Rattle.office_closing.proofs.StoppingLemmas.{on_the_way}
use Rattle.office_closing.proofs.laws.stops_are_on_the_way.Goals as goal

pub returns : goal.returns
returns g c = on_the_way g.S.Store g.R.Store g.A.Store g.M.Store
