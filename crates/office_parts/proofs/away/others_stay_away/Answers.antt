use Rattle.office_parts.proofs.AwayLemmas.{others_stay}
use Rattle.office_parts.proofs.away.others_stay_away.Goals as goal

pub returns : goal.returns
returns c = others_stay
