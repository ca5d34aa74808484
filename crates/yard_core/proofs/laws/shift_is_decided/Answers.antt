use Rattle.yard_core.proofs.Exact.{shift_is_decided_lem}
use Rattle.yard_core.proofs.laws.shift_is_decided.Goals as goal

pub returns : goal.returns
returns c = shift_is_decided_lem
