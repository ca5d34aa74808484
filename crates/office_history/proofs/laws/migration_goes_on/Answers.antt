use Rattle.office_history.proofs.KeptNumbers.{migration_goes_on}
use Rattle.office_history.proofs.laws.migration_goes_on.Goals as goal

pub returns : goal.returns
returns c = migration_goes_on
