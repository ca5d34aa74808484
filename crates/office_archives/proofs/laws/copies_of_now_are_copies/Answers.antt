use Rattle.office_archives.proofs.StayedTold.{copies_of_now}
use Rattle.office_archives.proofs.laws.copies_of_now_are_copies.Goals as goal

pub returns : goal.returns
returns c = copies_of_now
