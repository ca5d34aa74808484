use Rattle.office_replies.proofs.OneCut.{cuts_are_one as law}
use Rattle.office_replies.proofs.laws.cuts_are_one.Goals as goal

pub returns : goal.returns
returns c = law
