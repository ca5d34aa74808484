use Rattle.office_parts.proofs.JournalOrders.{used_stays_in_order}
use Rattle.office_parts.proofs.laws.used_stays_in_order.Goals as goal

pub returns : goal.returns
returns c = used_stays_in_order
