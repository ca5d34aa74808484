use Rattle.office_admission.proofs.Forming.{runs_sound}
use Rattle.office_admission.proofs.laws.deliveries_keep_sound.Goals as goal

pub returns : goal.returns
returns c = runs_sound
