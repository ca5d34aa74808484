use Rattle.office_archives.proofs.Standing.{beyond_answered}
use Rattle.office_archives.proofs.laws.deliveries_beyond_are_answered.Goals as goal

pub returns : goal.returns
returns g c = beyond_answered g.S.Store
