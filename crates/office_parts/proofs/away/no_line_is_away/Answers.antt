use Rattle.office_parts.proofs.AwayLemmas.{none_away}
use Rattle.office_parts.proofs.away.no_line_is_away.Goals as goal

pub returns : goal.returns
returns c = none_away
