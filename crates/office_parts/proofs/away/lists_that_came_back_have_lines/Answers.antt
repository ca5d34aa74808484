use Rattle.office_parts.proofs.AwayLemmas.{came_back}
use Rattle.office_parts.proofs.away.lists_that_came_back_have_lines.Goals as goal

pub returns : goal.returns
returns c = came_back
