use Rattle.office_admission.proofs.Adding.{unadded}
use Rattle.office_admission.proofs.laws.unadded_changes_nothing.Goals as goal

pub returns : goal.returns
returns c = unadded
