use Rattle.office_archives.proofs.StayedTold.{archives_tell_visits}
use Rattle.office_archives.proofs.laws.archives_tell_visits.Goals as goal

pub returns : goal.returns
returns c = archives_tell_visits
