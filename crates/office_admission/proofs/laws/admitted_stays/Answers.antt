use Rattle.office_admission.proofs.Adding.{admitted_still}
use Rattle.office_admission.proofs.laws.admitted_stays.Goals as goal

pub returns : goal.returns
returns c = admitted_still
