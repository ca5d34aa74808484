use Rattle.std.proofs.lemmas.Result.{on_ok_weaker}
use Rattle.office_replies.proofs.body.send_number.Goals as goal

pub returns : goal.returns
returns g c = on_ok_weaker c.u64.result (λ sent rest end more. (_, _, c.in_ok-key.ensures, sent, more)) c.u64.ensures
