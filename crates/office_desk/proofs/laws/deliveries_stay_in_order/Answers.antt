use Rattle.office_desk.proofs.KeptLemmas.{delivered_in_order}
use Rattle.office_desk.proofs.laws.deliveries_stay_in_order.Goals as goal

pub returns : goal.returns
returns g c = delivered_in_order g.S.Store
