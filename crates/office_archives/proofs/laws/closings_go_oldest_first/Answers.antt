use Rattle.office_archives.proofs.Sources.{oldest_first}
use Rattle.office_archives.proofs.laws.closings_go_oldest_first.Goals as goal

pub returns : goal.returns
returns c = oldest_first
