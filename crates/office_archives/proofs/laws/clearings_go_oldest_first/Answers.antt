use Rattle.office_archives.proofs.Older.{clearings_go}
use Rattle.office_archives.proofs.laws.clearings_go_oldest_first.Goals as goal

pub returns : goal.returns
returns c = clearings_go
