use Rattle.office_parts.proofs.LeftOver.{stay_apart}
use Rattle.office_parts.proofs.laws.left_over_stay_apart.Goals as goal

pub returns : goal.returns
returns c = stay_apart
