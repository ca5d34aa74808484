use Rattle.office_parts.proofs.Closings.{closing_parts}
use Rattle.office_parts.proofs.laws.closing_keeps_parts.Goals as goal

pub returns : goal.returns
returns c = closing_parts
