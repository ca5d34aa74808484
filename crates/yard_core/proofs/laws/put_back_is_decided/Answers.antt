use Rattle.yard_core.proofs.Exact.{put_back_is_decided_lem}
use Rattle.yard_core.proofs.laws.put_back_is_decided.Goals as goal

pub returns : goal.returns
returns c = put_back_is_decided_lem
