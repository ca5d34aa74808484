use Rattle.office_parts.proofs.Alike.{kept_adds}
use Rattle.office_parts.proofs.laws.kept_adds.Goals as goal

pub returns : goal.returns
returns c = kept_adds
