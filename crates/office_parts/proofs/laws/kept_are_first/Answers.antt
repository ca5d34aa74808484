use Rattle.office_parts.proofs.Alike.{kept_are_first}
use Rattle.office_parts.proofs.laws.kept_are_first.Goals as goal

pub returns : goal.returns
returns c = kept_are_first
