use Rattle.office_parts.proofs.JournalOrders.{stored_is_journal}
use Rattle.office_parts.proofs.laws.stored_is_journal.Goals as goal

pub returns : goal.returns
returns c = stored_is_journal
