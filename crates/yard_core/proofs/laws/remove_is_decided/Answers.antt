use Rattle.yard_core.proofs.Exact.{remove_is_decided_lem}
use Rattle.yard_core.proofs.laws.remove_is_decided.Goals as goal

pub returns : goal.returns
returns c = remove_is_decided_lem
