use Rattle.office_parts.proofs.AwayLemmas.{without_row}
use Rattle.office_parts.proofs.away.away_stays_without_row.Goals as goal

pub returns : goal.returns
returns c = without_row
