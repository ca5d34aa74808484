use Rattle.office_parts.proofs.Opening.{own_visits_go}
use Rattle.office_parts.proofs.laws.own_visits_go_on.Goals as goal

pub returns : goal.returns
returns c = own_visits_go
