use Rattle.office_parts.proofs.Takings.{early_parts}
use Rattle.office_parts.proofs.laws.early_adds_to_parts.Goals as goal

pub returns : goal.returns
returns c = early_parts
