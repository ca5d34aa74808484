use Rattle.std.specs.Prelude.{map}
use Rattle.sqlite.specs.Held.{state}
use Rattle.office_closing.specs.{Changes.{closed_with, unchanged}, Lists.list_content, Register.{archive_content, sealed_content}}
use Rattle.office_closing.proofs.PlanLemmas.{stepped, stopped}
use Rattle.office_closing.proofs.closing.raise_now.Goals as goal

pub returns-in-Ok-clause-steps : goal.returns-in-Ok-clause-steps
returns-in-Ok-clause-steps g c = stepped unchanged (closed_with (archive_content c.args.archive.now) c.args.segments.now (map list_content c.args.lists.now) c.args.taken.now (map sealed_content c.args.sealed.now)) (state g.S.Store c.args.conn.now) (state g.S.Store c.close_with.new.conn) _ c.in-Ok.ensures.idle c.in-Ok.ensures.ok c.in-Ok.ensures.crash

pub returns-in-Err-clause-steps : goal.returns-in-Err-clause-steps
returns-in-Err-clause-steps g c = rw c.not_written.ensures (stopped unchanged (closed_with (archive_content c.args.archive.now) c.args.segments.now (map list_content c.args.lists.now) c.args.taken.now (map sealed_content c.args.sealed.now)) (state g.S.Store c.args.conn.now) (state g.S.Store c.close_with.new.conn) _ c.in-Err.ensures.idle c.in-Err.ensures.err c.in-Err.ensures.crash c.in-Err.ensures.fault)
