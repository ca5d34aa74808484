use Rattle.office_rows.proofs.InPlace.{adds_in_place}
use Rattle.office_rows.proofs.laws.adds_in_place.Goals as goal

pub returns : goal.returns
returns c = adds_in_place
