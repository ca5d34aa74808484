use Rattle.office_history.proofs.Offices.{rows_are}
use Rattle.office_history.proofs.laws.rows_are_an_office.Goals as goal

pub returns : goal.returns
returns c = rows_are
