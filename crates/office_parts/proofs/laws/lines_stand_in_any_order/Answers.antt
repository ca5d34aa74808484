use Rattle.office_parts.proofs.BringingLemmas.{any_order}
use Rattle.office_parts.proofs.laws.lines_stand_in_any_order.Goals as goal

pub returns : goal.returns
returns c = any_order
