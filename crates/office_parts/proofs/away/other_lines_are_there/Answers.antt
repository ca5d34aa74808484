use Rattle.office_parts.proofs.AwayLemmas.{others_there}
use Rattle.office_parts.proofs.away.other_lines_are_there.Goals as goal

pub returns : goal.returns
returns c = others_there
