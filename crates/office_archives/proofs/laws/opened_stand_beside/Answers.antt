use Rattle.office_archives.proofs.Filled.{opened_beside}
use Rattle.office_archives.proofs.laws.opened_stand_beside.Goals as goal

pub returns : goal.returns
returns g c = opened_beside g.S.Store
