use Rattle.office_archives.proofs.Moves.{metrics_told}
use Rattle.office_archives.proofs.laws.metrics_are_told.Goals as goal

pub returns : goal.returns
returns c = metrics_told
