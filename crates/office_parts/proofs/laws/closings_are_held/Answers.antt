use Rattle.office_parts.proofs.Closings.{closings_held}
use Rattle.office_parts.proofs.laws.closings_are_held.Goals as goal

pub returns : goal.returns
returns c = closings_held
