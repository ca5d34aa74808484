use Rattle.office_parts.proofs.AwayLemmas.{next_names}
use Rattle.office_parts.proofs.away.next_names_none_away.Goals as goal

pub returns : goal.returns
returns c = next_names
