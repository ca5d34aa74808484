use Rattle.office_parts.proofs.JournalOrders.{opening_is_in_order}
use Rattle.office_parts.proofs.laws.opening_is_in_order.Goals as goal

pub returns : goal.returns
returns c = opening_is_in_order
