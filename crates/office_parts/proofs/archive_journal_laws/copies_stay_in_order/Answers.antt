use Rattle.office_parts.proofs.Files.{copies_stay_in_order}
use Rattle.office_parts.proofs.archive_journal_laws.copies_stay_in_order.Goals as goal

pub returns : goal.returns
returns c = copies_stay_in_order
