use Rattle.office_parts.proofs.Again.{following}
use Rattle.office_parts.proofs.laws.following.Goals as goal

pub returns : goal.returns
returns c = following
