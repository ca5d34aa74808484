use Rattle.office_parts.proofs.AwayLemmas.{with_next}
use Rattle.office_parts.proofs.away.away_stays_with_next.Goals as goal

pub returns : goal.returns
returns c = with_next
