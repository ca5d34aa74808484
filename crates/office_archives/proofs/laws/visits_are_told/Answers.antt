use Rattle.office_archives.proofs.StayedTold.{visits_told}
use Rattle.office_archives.proofs.laws.visits_are_told.Goals as goal

pub returns : goal.returns
returns c = visits_told
