use Rattle.office_admission.proofs.Forming.{opening_sound}
use Rattle.office_admission.proofs.laws.openings_are_sound.Goals as goal

pub returns : goal.returns
returns c = opening_sound
