use Rattle.office_archives.proofs.Moves.{partners_told}
use Rattle.office_archives.proofs.laws.partners_are_told_alike.Goals as goal

pub returns : goal.returns
returns c = partners_told
