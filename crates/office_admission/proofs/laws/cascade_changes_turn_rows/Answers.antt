use Rattle.office_admission.proofs.Forming.{cascade_leads}
use Rattle.office_admission.proofs.laws.cascade_changes_turn_rows.Goals as goal

pub returns : goal.returns
returns c = λ machine texts numbers whole. (cascade_leads machine texts numbers whole).turned
