use Rattle.office_parts.proofs.JournalOrders.{early_adds_in_order}
use Rattle.office_parts.proofs.laws.early_adds_in_order.Goals as goal

pub returns : goal.returns
returns c = early_adds_in_order
