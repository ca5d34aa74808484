use Rattle.office_archives.proofs.StayedTold.{containers_told}
use Rattle.office_archives.proofs.laws.containers_are_told.Goals as goal

pub returns : goal.returns
returns c = containers_told
