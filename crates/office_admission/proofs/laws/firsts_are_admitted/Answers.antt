use Rattle.office_admission.proofs.Adding.{first_admitted}
use Rattle.office_admission.proofs.laws.firsts_are_admitted.Goals as goal

pub returns : goal.returns
returns c = λ content es p k text e. first_admitted es content p k text e
