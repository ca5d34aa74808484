use Rattle.office_parts.proofs.Takings.{rows_are_parts}
use Rattle.office_parts.proofs.laws.rows_are_parts.Goals as goal

pub returns : goal.returns
returns c = rows_are_parts
