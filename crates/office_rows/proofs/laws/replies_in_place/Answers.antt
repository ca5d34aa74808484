use Rattle.office_rows.proofs.InPlace.{replies_in_place}
use Rattle.office_rows.proofs.laws.replies_in_place.Goals as goal

pub returns : goal.returns
returns c = replies_in_place
