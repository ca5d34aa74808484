use Rattle.office_archives.proofs.Sources.{nothing_went}
use Rattle.office_archives.proofs.laws.nothing_went_at_first.Goals as goal

pub returns : goal.returns
returns c = nothing_went
