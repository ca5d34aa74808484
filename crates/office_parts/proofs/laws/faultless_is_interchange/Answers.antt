use Rattle.office_parts.proofs.Cut.{faultless_is_interchange}
use Rattle.office_parts.proofs.laws.faultless_is_interchange.Goals as goal

pub returns : goal.returns
returns c = faultless_is_interchange
