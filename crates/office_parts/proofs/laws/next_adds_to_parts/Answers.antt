use Rattle.office_parts.proofs.Takings.{next_adds_to_parts}
use Rattle.office_parts.proofs.laws.next_adds_to_parts.Goals as goal

pub returns : goal.returns
returns c = next_adds_to_parts
