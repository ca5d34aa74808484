use Rattle.office_archives.proofs.Later.{visits_of_taken}
use Rattle.office_archives.proofs.laws.visits_are_of_taken.Goals as goal

pub returns : goal.returns
returns c = visits_of_taken
