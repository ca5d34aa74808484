use Rattle.office_admission.proofs.Forming.{interchange_formed_by}
use Rattle.office_admission.proofs.laws.interchanges_keep_forms.Goals as goal

pub returns : goal.returns
returns c = interchange_formed_by
