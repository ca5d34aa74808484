use Rattle.office_parts.proofs.Alike.{kept_decides}
use Rattle.office_parts.proofs.laws.kept_decides.Goals as goal

pub returns : goal.returns
returns g c = kept_decides g.M.Machine.taken
