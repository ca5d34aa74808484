use Rattle.office_admission.proofs.Forming.{terminal_alone}
use Rattle.office_admission.proofs.laws.interchanges_change_terminal_alone.Goals as goal

pub returns : goal.returns
returns c = terminal_alone
