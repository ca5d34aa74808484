use Rattle.office_archives.proofs.Later.{later_leave_visits}
use Rattle.office_archives.proofs.laws.later_leave_visits.Goals as goal

pub returns : goal.returns
returns c = later_leave_visits
