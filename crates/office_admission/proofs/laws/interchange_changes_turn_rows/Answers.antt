use Rattle.office_admission.proofs.Takings.{interchange_leads_by}
use Rattle.office_admission.proofs.laws.interchange_changes_turn_rows.Goals as goal

pub returns : goal.returns
returns c = λ version machine partner text whole. (interchange_leads_by version machine partner text whole).turned
