use Rattle.office_desk.proofs.KeptLemmas.{opened_in_order}
use Rattle.office_desk.proofs.laws.opened_stand_in_order.Goals as goal

pub returns : goal.returns
returns g c = opened_in_order g.S.Store
