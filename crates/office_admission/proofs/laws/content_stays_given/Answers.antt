use Rattle.office_admission.proofs.Adding.{given_after}
use Rattle.office_admission.proofs.laws.content_stays_given.Goals as goal

pub returns : goal.returns
returns c = λ content es given. given_after es content given
