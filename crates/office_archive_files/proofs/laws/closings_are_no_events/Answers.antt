use Rattle.office_archive_files.proofs.ClosingLemmas.{closings_are_no_events}
use Rattle.office_archive_files.proofs.laws.closings_are_no_events.Goals as goal

pub returns : goal.returns
returns c = closings_are_no_events c.closed_stores_stand.ensures
