use Rattle.office_parts.proofs.Files.{events_stay_in_order}
use Rattle.office_parts.proofs.archive_journal_laws.events_stay_in_order.Goals as goal

pub returns : goal.returns
returns c = events_stay_in_order
