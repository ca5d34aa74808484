use Rattle.office_admission.proofs.Forming.{runs_alone}
use Rattle.office_admission.proofs.laws.deliveries_change_terminal_alone.Goals as goal

pub returns : goal.returns
returns c = runs_alone
