use Rattle.office_archive_files.proofs.OpenedLemmas.{unclosed_stores_open}
use Rattle.office_archive_files.proofs.laws.unclosed_stores_open.Goals as goal

pub returns : goal.returns
returns c = unclosed_stores_open
