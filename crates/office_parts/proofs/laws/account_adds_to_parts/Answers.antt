use Rattle.office_parts.proofs.Takings.{account_more}
use Rattle.office_parts.proofs.laws.account_adds_to_parts.Goals as goal

pub returns : goal.returns
returns c = account_more
