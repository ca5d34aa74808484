use Rattle.office_parts.proofs.AwayLemmas.{with_account}
use Rattle.office_parts.proofs.away.away_stays_with_account.Goals as goal

pub returns : goal.returns
returns c = with_account
