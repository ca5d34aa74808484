use Rattle.office_parts.proofs.KeepingLemmas.{away_done}
use Rattle.office_parts.proofs.away.away_lines_are_done.Goals as goal

pub returns : goal.returns
returns c = away_done
