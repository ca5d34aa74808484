use Rattle.office_parts.proofs.Orders.{archives_answered}
use Rattle.office_parts.proofs.laws.archives_answer.Goals as goal

pub returns : goal.returns
returns c = archives_answered
