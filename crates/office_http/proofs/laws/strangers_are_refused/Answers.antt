use Rattle.office_http.proofs.Strangers.{strangers_are_refused as law}
use Rattle.office_http.proofs.laws.strangers_are_refused.Goals as goal

pub returns : goal.returns
returns c = law
