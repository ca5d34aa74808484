use Rattle.office_rows.proofs.InPlace.{others_keep_places}
use Rattle.office_rows.proofs.laws.others_keep_places.Goals as goal

pub returns : goal.returns
returns c = others_keep_places
