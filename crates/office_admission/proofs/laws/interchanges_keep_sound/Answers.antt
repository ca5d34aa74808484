use Rattle.office_admission.proofs.Forming.{keeps_sound}
use Rattle.office_admission.proofs.laws.interchanges_keep_sound.Goals as goal

pub returns : goal.returns
returns c = keeps_sound
