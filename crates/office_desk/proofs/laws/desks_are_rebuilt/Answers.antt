use Rattle.office_desk.proofs.KeptLemmas.{rebuilt}
use Rattle.office_desk.proofs.laws.desks_are_rebuilt.Goals as goal

pub returns : goal.returns
returns g c = rebuilt g.S.Store
