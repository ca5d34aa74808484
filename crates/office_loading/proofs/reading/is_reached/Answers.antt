use Rattle.sqlite.specs.Held.{state}
use Rattle.office_loading.proofs.TakenLemmas.{reached_none}
use Rattle.office_loading.proofs.reading.is_reached.Goals as goal

pub returns-then-from-eq0-clause-answer : goal.returns-then-from-eq0-clause-answer
returns-then-from-eq0-clause-answer g c clean rows has = reached_none c.args.from ((state g.S.Store c.args.conn.now).now.trees 2) c.if-from-eq0.true
