use Rattle.office_parts.proofs.LeftOver.{may_go}
use Rattle.office_parts.proofs.laws.left_over_may_go.Goals as goal

pub returns : goal.returns
returns c = may_go
