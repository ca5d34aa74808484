use Rattle.office_desk.proofs.AccountLemmas.{leaves_all}
use Rattle.office_desk.proofs.laws.deliveries_outlast_crashes.Goals as goal

pub returns : goal.returns
returns g c = leaves_all g.S.Store
