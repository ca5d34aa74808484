use Rattle.office_http.proofs.Strangers.{telling_nothing_passes as law}
use Rattle.office_http.proofs.laws.telling_nothing_passes.Goals as goal

pub returns : goal.returns
returns c = law
