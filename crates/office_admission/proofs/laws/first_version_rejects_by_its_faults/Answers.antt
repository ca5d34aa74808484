use Rattle.office_admission.proofs.Takings.{first_version_faults}
use Rattle.office_admission.proofs.laws.first_version_rejects_by_its_faults.Goals as goal

pub returns : goal.returns
returns c = first_version_faults
