use Rattle.office_parts.proofs.Reading.{away_alike}
use Rattle.office_parts.proofs.away.away_is_alike.Goals as goal

pub returns : goal.returns
returns c = away_alike
