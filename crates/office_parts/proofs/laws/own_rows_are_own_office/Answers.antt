use Rattle.office_parts.proofs.OwnOpening.{own_office}
use Rattle.office_parts.proofs.laws.own_rows_are_own_office.Goals as goal

pub returns : goal.returns
returns c = own_office
