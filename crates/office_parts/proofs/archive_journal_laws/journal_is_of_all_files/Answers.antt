use Rattle.office_parts.proofs.Files.{journal_is_of_all_files}
use Rattle.office_parts.proofs.archive_journal_laws.journal_is_of_all_files.Goals as goal

pub returns : goal.returns
returns c = journal_is_of_all_files
