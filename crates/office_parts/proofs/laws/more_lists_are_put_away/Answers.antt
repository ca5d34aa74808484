use Rattle.office_parts.proofs.BringingLemmas.{more_away}
use Rattle.office_parts.proofs.laws.more_lists_are_put_away.Goals as goal

pub returns : goal.returns
returns c = more_away
