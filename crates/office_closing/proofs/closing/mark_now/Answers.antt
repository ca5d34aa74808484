use Rattle.sqlite.specs.Held.{state}
use Rattle.office_closing.{specs.Changes.{marked_for, unmarked}, proofs.PlanLemmas.{stepped, stopped}}
use Rattle.office_closing.proofs.closing.mark_now.Goals as goal

pub returns-in-Ok-clause-steps : goal.returns-in-Ok-clause-steps
returns-in-Ok-clause-steps g c = stepped unmarked (marked_for c.args.store_file.now) (state g.S.Store c.args.conn.now) (state g.S.Store c.mark.new.conn) _ c.in-Ok.ensures.idle c.in-Ok.ensures.ok c.in-Ok.ensures.crash

pub returns-in-Err-clause-steps : goal.returns-in-Err-clause-steps
returns-in-Err-clause-steps g c = rw c.not_written.ensures (stopped unmarked (marked_for c.args.store_file.now) (state g.S.Store c.args.conn.now) (state g.S.Store c.mark.new.conn) _ c.in-Err.ensures.idle c.in-Err.ensures.err c.in-Err.ensures.crash c.in-Err.ensures.fault)
