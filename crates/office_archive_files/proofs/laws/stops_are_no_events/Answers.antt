use Rattle.office_archive_files.proofs.StopLemmas.{stops_are_no_events}
use Rattle.office_archive_files.proofs.laws.stops_are_no_events.Goals as goal

pub returns : goal.returns
returns g c = stops_are_no_events g.S.Store g.R.Store g.A.Store g.M.Store c.closings_are_no_events.ensures
