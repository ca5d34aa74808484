use Rattle.office_parts.proofs.Closings.{added_hold}
use Rattle.office_parts.proofs.laws.added_archives_hold.Goals as goal

pub returns : goal.returns
returns c = added_hold
