use Rattle.office_archives.proofs.Rising.{told_alike}
use Rattle.office_archives.proofs.laws.what_stands_is_told_alike.Goals as goal

pub returns : goal.returns
returns c = told_alike
