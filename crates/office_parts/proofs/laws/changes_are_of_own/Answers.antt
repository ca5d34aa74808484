use Rattle.office_parts.proofs.Splits.{changes_spared}
use Rattle.office_parts.proofs.laws.changes_are_of_own.Goals as goal

pub returns : goal.returns
returns c = changes_spared
