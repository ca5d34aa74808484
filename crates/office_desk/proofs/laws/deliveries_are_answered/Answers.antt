use Rattle.office_desk.proofs.AccountLemmas.{answered_all}
use Rattle.office_desk.proofs.laws.deliveries_are_answered.Goals as goal

pub returns : goal.returns
returns g c = answered_all g.S.Store
