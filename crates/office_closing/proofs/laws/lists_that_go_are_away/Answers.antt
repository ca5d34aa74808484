use Rattle.office_closing.proofs.ClosesLemmas.{gone_away}
use Rattle.office_closing.proofs.laws.lists_that_go_are_away.Goals as goal

pub returns : goal.returns
returns c = gone_away
