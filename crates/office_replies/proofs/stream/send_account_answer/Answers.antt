use Rattle.std.{specs.Io.KnownBytes.Appends, proofs.{Common.subst, KnownBytes.Appends-kept}}
use Rattle.office_replies.{specs.{Fronts.AppendsFront, StreamLines.line}, proofs.PartLemmas.{front_kept, on_ok, on_err}}
use Rattle.office_replies.proofs.stream.send_account_answer.Goals as goal

pub returns-in_err-write_line-clause-front : goal.returns-in_err-write_line-clause-front
returns-in_err-write_line-clause-front g c =
    on_err c.from_residual.result _ (subst (λ text. AppendsFront (g.W.Write.contents c.args.writer.now.inner) (g.W.Write.contents c.write_line.new.writer.inner) (line text)) c.body.ensures c.in_err-write_line.ensures.front)

pub returns-clause-ok : goal.returns-clause-ok
returns-clause-ok g c =
    on_ok c.flush.result _ (Appends-kept _ _ _ _ (subst (λ text. Appends (g.W.Write.contents c.args.writer.now.inner) (g.W.Write.contents c.write_line.new.writer.inner) (line text)) c.body.ensures c.in_ok-write_line.ensures.ok) c.flush.ensures.bytes)

pub returns-clause-front : goal.returns-clause-front
returns-clause-front g c =
    on_err c.flush.result _ (front_kept _ _ _ _ (subst (λ text. Appends (g.W.Write.contents c.args.writer.now.inner) (g.W.Write.contents c.write_line.new.writer.inner) (line text)) c.body.ensures c.in_ok-write_line.ensures.ok) c.flush.ensures.bytes)
