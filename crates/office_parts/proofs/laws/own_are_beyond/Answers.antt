use Rattle.office_parts.proofs.Opening.{own_beyond}
use Rattle.office_parts.proofs.laws.own_are_beyond.Goals as goal

pub returns : goal.returns
returns c = own_beyond
