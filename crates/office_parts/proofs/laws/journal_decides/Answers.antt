use Rattle.office_parts.proofs.Again.{journal_decides}
use Rattle.office_parts.proofs.laws.journal_decides.Goals as goal

pub returns : goal.returns
returns c = journal_decides
