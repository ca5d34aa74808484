use Rattle.office_archives.proofs.StayedTold.{beyond_told}
use Rattle.office_archives.proofs.laws.numbers_beyond_are_told_alike.Goals as goal

pub returns : goal.returns
returns c = beyond_told
