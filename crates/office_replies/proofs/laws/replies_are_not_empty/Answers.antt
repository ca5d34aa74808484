use Rattle.office_replies.proofs.Ready.{reply_is_some}
use Rattle.office_replies.proofs.laws.replies_are_not_empty.Goals as goal

pub returns : goal.returns
returns c = reply_is_some
