use Rattle.office_admission.proofs.Forming.{by_place_sound}
use Rattle.office_admission.proofs.laws.by_place_keeps_sound.Goals as goal

pub returns : goal.returns
returns c = by_place_sound
