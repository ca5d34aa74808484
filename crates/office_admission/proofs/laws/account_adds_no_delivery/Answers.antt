use Rattle.office_admission.proofs.Adding.{account_adds}
use Rattle.office_admission.proofs.laws.account_adds_no_delivery.Goals as goal

pub returns : goal.returns
returns c = λ content es code kind. account_adds es content code kind
