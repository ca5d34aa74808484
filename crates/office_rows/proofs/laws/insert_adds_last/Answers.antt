use Rattle.office_rows.proofs.Placed.{insert_adds_last}
use Rattle.office_rows.proofs.laws.insert_adds_last.Goals as goal

pub returns : goal.returns
returns c = insert_adds_last
