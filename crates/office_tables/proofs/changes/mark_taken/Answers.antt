use Rattle.std.proofs.Common.{◌+◌}
use Rattle.sqlite.specs.Held.{state}
use Rattle.office_rows.specs.Effects.{with_reply, with_next}
use Rattle.office_tables.proofs.WritesLemmas.{writes_then}
use Rattle.office_tables.proofs.changes.mark_taken.Goals as goal

pub returns-clause-writes : goal.returns-clause-writes
returns-clause-writes g c =
    let a = c.args in
    writes_then (with_reply a.partner a.number a.reply.now) (with_next a.partner (a.number + 1)) (state g.S.Store a.tx.now.conn.now) (state g.S.Store c.set_reply.new.tx.conn.now) (state g.S.Store c.set_next.new.tx.conn.now) _ c.set_next.result
    c.in_ok-set_reply.ensures.writes c.set_next.ensures.writes
