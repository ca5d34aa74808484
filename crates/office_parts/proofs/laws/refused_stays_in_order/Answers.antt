use Rattle.office_parts.proofs.JournalOrders.{refused_stays_in_order}
use Rattle.office_parts.proofs.laws.refused_stays_in_order.Goals as goal

pub returns : goal.returns
returns c = refused_stays_in_order
