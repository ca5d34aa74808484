use Rattle.office_archive_files.proofs.FileLemmas.{closings_of_files_are_no_events}
use Rattle.office_archive_files.proofs.laws.closings_of_files_are_no_events.Goals as goal

pub returns : goal.returns
returns g c = closings_of_files_are_no_events g.S.Store g.R.Store g.A.Store g.M.Store c.stops_are_no_events.ensures c.opened_rows_are_orderly.ensures
