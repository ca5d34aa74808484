use Rattle.office_parts.proofs.Again.{rebuilding}
use Rattle.office_parts.proofs.laws.rebuilding.Goals as goal

pub returns : goal.returns
returns c = rebuilding
