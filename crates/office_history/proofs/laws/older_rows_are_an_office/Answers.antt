use Rattle.office_history.proofs.Offices.{older_rows_are}
use Rattle.office_history.proofs.laws.older_rows_are_an_office.Goals as goal

pub returns : goal.returns
returns c = older_rows_are
