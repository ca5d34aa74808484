use Rattle.office_archives.proofs.Older.{full_closings}
use Rattle.office_archives.proofs.laws.full_closings_go_oldest_first.Goals as goal

pub returns : goal.returns
returns c = full_closings
