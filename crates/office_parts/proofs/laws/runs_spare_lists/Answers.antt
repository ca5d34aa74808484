use Rattle.office_parts.proofs.ListTakings.{runs}
use Rattle.office_parts.proofs.laws.runs_spare_lists.Goals as goal

pub returns : goal.returns
returns c = runs
