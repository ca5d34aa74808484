use Rattle.office_admission.proofs.Adding.{refused_adds_none}
use Rattle.office_admission.proofs.laws.refused_adds_no_delivery.Goals as goal

pub returns : goal.returns
returns c = λ content es later sent fault is. refused_adds_none es later content sent fault is
