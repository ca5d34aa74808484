use Rattle.office_history.proofs.ByKeys.{changes_agree}
use Rattle.office_history.proofs.laws.changes_agree.Goals as goal

pub returns : goal.returns
returns c = λ rows terminal changes are fits. changes_agree changes rows terminal are fits
