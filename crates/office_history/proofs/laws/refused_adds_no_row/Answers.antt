use Rattle.office_history.proofs.Lawful.{refused_adds}
use Rattle.office_history.proofs.laws.refused_adds_no_row.Goals as goal

pub returns : goal.returns
returns c = refused_adds
