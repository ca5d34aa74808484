use Rattle.office_archives.proofs.Told.{names_one_more}
use Rattle.office_archives.proofs.laws.names_one_more.Goals as goal

pub returns : goal.returns
returns c = names_one_more
