use Rattle.office_archives.proofs.ClosedTold.{closed_replies}
use Rattle.office_archives.proofs.laws.archives_tell_replies.Goals as goal

pub returns : goal.returns
returns c = closed_replies
