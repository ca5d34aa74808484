use Rattle.office_parts.proofs.Opening.{new_visits}
use Rattle.office_parts.proofs.laws.new_visits_are_new.Goals as goal

pub returns : goal.returns
returns c = new_visits
