use Rattle.office_parts.proofs.Orders.{closed_within}
use Rattle.office_parts.proofs.laws.closed_are_within_runs.Goals as goal

pub returns : goal.returns
returns c = closed_within
