use Rattle.office_archives.proofs.ClosedTold.{closed_tickets}
use Rattle.office_archives.proofs.laws.archives_tell_tickets.Goals as goal

pub returns : goal.returns
returns c = closed_tickets
