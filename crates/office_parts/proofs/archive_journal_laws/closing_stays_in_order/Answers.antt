use Rattle.office_parts.proofs.Files.{closing_stays_in_order}
use Rattle.office_parts.proofs.archive_journal_laws.closing_stays_in_order.Goals as goal

pub returns : goal.returns
returns c = closing_stays_in_order
