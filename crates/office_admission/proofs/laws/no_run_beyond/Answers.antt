use Rattle.office_admission.proofs.Adding.{no_run_beyond}
use Rattle.office_admission.proofs.laws.no_run_beyond.Goals as goal

pub returns : goal.returns
returns c = λ content es. no_run_beyond es content
