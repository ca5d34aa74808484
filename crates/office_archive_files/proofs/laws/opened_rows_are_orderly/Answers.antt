use Rattle.office_archive_files.proofs.ClosingLemmas.{opened_rows_are_orderly}
use Rattle.office_archive_files.proofs.laws.opened_rows_are_orderly.Goals as goal

pub returns : goal.returns
returns c = opened_rows_are_orderly
