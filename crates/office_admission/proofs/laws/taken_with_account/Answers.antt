use Rattle.office_admission.proofs.Takings.{taken_with_account}
use Rattle.office_admission.proofs.laws.taken_with_account.Goals as goal

pub returns : goal.returns
returns c = taken_with_account
