use Rattle.office_parts.proofs.Writings.{next_adds}
use Rattle.office_parts.proofs.laws.next_adds_without_lists.Goals as goal

pub returns : goal.returns
returns c = next_adds
