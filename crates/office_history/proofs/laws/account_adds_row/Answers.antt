use Rattle.office_history.proofs.Ground.{account_adds_row}
use Rattle.office_history.proofs.laws.account_adds_row.Goals as goal

pub returns : goal.returns
returns c = account_adds_row
