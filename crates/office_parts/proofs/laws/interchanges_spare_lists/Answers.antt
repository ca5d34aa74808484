use Rattle.office_parts.proofs.ListTakings.{interchanges}
use Rattle.office_parts.proofs.laws.interchanges_spare_lists.Goals as goal

pub returns : goal.returns
returns c = interchanges
