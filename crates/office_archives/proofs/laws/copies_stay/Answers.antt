use Rattle.office_archives.proofs.StayedTold.{copies_stay}
use Rattle.office_archives.proofs.laws.copies_stay.Goals as goal

pub returns : goal.returns
returns c = copies_stay
