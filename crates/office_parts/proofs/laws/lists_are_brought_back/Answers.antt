use Rattle.office_parts.proofs.BringingLemmas.{brought_back}
use Rattle.office_parts.proofs.laws.lists_are_brought_back.Goals as goal

pub returns : goal.returns
returns c = brought_back
