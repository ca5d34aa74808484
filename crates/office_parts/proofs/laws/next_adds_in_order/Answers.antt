use Rattle.office_parts.proofs.JournalOrders.{next_adds_in_order}
use Rattle.office_parts.proofs.laws.next_adds_in_order.Goals as goal

pub returns : goal.returns
returns c = next_adds_in_order
