use Rattle.yard_core.proofs.Exact.{place_is_decided_lem}
use Rattle.yard_core.proofs.laws.place_is_decided.Goals as goal

pub returns : goal.returns
returns c = place_is_decided_lem
