use Rattle.office_parts.proofs.Entries.{fronts_were_journals}
use Rattle.office_parts.proofs.laws.fronts_were_journals.Goals as goal

pub returns : goal.returns
returns c = fronts_were_journals
