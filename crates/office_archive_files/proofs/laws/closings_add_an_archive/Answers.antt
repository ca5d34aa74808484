use Rattle.office_archive_files.proofs.AddedLemmas.{closings_add_an_archive}
use Rattle.office_archive_files.proofs.laws.closings_add_an_archive.Goals as goal

pub returns : goal.returns
returns c = closings_add_an_archive
