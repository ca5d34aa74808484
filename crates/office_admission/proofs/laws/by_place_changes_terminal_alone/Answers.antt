use Rattle.office_admission.proofs.Forming.{by_place_alone}
use Rattle.office_admission.proofs.laws.by_place_changes_terminal_alone.Goals as goal

pub returns : goal.returns
returns c = by_place_alone
