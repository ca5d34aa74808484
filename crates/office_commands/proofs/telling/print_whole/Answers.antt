use Rattle.std.proofs.KnownBytes.{Appends-kept}
use Rattle.office_replies.proofs.PartLemmas.{front_kept, on_ok, on_err}
use Rattle.office_commands.proofs.telling.print_whole.Goals as goal

pub returns-clause-ok : goal.returns-clause-ok
returns-clause-ok g c = on_ok c.flush.result _ (Appends-kept _ _ _ _ c.in_ok-write_all.ensures.bytes c.flush.ensures.bytes)

pub returns-clause-front : goal.returns-clause-front
returns-clause-front g c = on_err c.flush.result _ (front_kept _ _ _ _ c.in_ok-write_all.ensures.bytes c.flush.ensures.bytes)
