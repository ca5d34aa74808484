use Rattle.office_desk.proofs.KeptLemmas.{looked_in_order}
use Rattle.office_desk.proofs.laws.looks_stay_in_order.Goals as goal

pub returns : goal.returns
returns g c = looked_in_order g.S.Store
