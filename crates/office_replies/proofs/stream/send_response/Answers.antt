use Rattle.std.proofs.KnownBytes.{Appends-kept}
use Rattle.office_replies.proofs.PartLemmas.{front_kept, on_ok, on_err}
use Rattle.office_replies.proofs.stream.send_response.Goals as goal

pub returns-in_err-write_response-clause-front : goal.returns-in_err-write_response-clause-front
returns-in_err-write_response-clause-front g c = on_err c.from_residual.result _ c.in_err-write_response.ensures.front

pub returns-clause-ok : goal.returns-clause-ok
returns-clause-ok g c = on_ok c.flush.result _ (Appends-kept _ _ _ _ c.in_ok-write_response.ensures.ok c.flush.ensures.bytes)

pub returns-clause-front : goal.returns-clause-front
returns-clause-front g c = on_err c.flush.result _ (front_kept _ _ _ _ c.in_ok-write_response.ensures.ok c.flush.ensures.bytes)
