use Rattle.office_archive_files.proofs.FileLemmas.{open_stores_are_held}
use Rattle.office_archive_files.proofs.laws.open_stores_are_held.Goals as goal

pub returns : goal.returns
returns c = open_stores_are_held
