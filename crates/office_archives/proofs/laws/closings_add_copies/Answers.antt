use Rattle.office_archives.proofs.StayedTold.{closings_add}
use Rattle.office_archives.proofs.laws.closings_add_copies.Goals as goal

pub returns : goal.returns
returns c = closings_add
