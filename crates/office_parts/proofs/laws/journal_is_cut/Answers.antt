use Rattle.office_parts.proofs.Cut.{journal_is_cut}
use Rattle.office_parts.proofs.laws.journal_is_cut.Goals as goal

pub returns : goal.returns
returns c = journal_is_cut
