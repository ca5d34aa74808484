use Rattle.office_archive_files.proofs.OpenedLemmas.{loaded_stores_open}
use Rattle.office_archive_files.proofs.laws.loaded_stores_open.Goals as goal

pub returns : goal.returns
returns c = loaded_stores_open
