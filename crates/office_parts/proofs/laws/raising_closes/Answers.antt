use Rattle.office_parts.proofs.LeftOver.{raising_closes}
use Rattle.office_parts.proofs.laws.raising_closes.Goals as goal

pub returns : goal.returns
returns c = raising_closes
