use Rattle.office_history.proofs.Lawful.{used_adds}
use Rattle.office_history.proofs.laws.used_adds_no_row.Goals as goal

pub returns : goal.returns
returns c = used_adds
