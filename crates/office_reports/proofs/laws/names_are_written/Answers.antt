use Rattle.office_reports.proofs.Standings.{slot_same}
use Rattle.office_reports.proofs.laws.names_are_written.Goals as goal

pub returns : goal.returns
returns c slot named = slot_same slot named
