use Rattle.office_parts.proofs.JournalOrders.{account_stays_in_order}
use Rattle.office_parts.proofs.laws.account_stays_in_order.Goals as goal

pub returns : goal.returns
returns c = account_stays_in_order
