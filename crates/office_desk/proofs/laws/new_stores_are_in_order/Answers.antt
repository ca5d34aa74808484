use Rattle.office_desk.proofs.KeptLemmas.{new_in_order}
use Rattle.office_desk.proofs.laws.new_stores_are_in_order.Goals as goal

pub returns : goal.returns
returns c = new_in_order
