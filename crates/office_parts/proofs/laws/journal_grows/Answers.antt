use Rattle.office_parts.proofs.Entries.{journal_grows}
use Rattle.office_parts.proofs.laws.journal_grows.Goals as goal

pub returns : goal.returns
returns c = journal_grows
