use Rattle.office_parts.proofs.AwayLemmas.{with_early}
use Rattle.office_parts.proofs.away.away_stays_with_early.Goals as goal

pub returns : goal.returns
returns c = with_early
