use Rattle.office_admission.proofs.Adding.{added_last}
use Rattle.office_admission.proofs.laws.added_is_last.Goals as goal

pub returns : goal.returns
returns c = added_last
