use Rattle.office_parts.proofs.LeftOver.{told_alike}
use Rattle.office_parts.proofs.laws.left_over_tell_nothing.Goals as goal

pub returns : goal.returns
returns c = told_alike
