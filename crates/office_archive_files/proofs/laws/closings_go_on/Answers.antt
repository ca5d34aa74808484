use Rattle.office_archive_files.proofs.GoingOnLemmas.{closings_go_on}
use Rattle.office_archive_files.proofs.laws.closings_go_on.Goals as goal

pub returns : goal.returns
returns c = closings_go_on
