use Rattle.office_closing.proofs.JournalLemmas.{journal_kept}
use Rattle.office_closing.proofs.laws.closings_keep_journal.Goals as goal

pub returns : goal.returns
returns c = journal_kept
