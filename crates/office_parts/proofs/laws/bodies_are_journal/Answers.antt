use Rattle.office_parts.proofs.JournalOrders.{bodies_are_journal}
use Rattle.office_parts.proofs.laws.bodies_are_journal.Goals as goal

pub returns : goal.returns
returns c = bodies_are_journal
