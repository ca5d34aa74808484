use Rattle.office_parts.proofs.JournalOrders.{migration_stays_in_order}
use Rattle.office_parts.proofs.laws.migration_stays_in_order.Goals as goal

pub returns : goal.returns
returns c = migration_stays_in_order
