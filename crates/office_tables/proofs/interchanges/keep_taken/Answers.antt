use Rattle.sqlite.specs.Held.{state}
use Rattle.office_tables.proofs.PairLemmas.{steps_kept, order_kept}
use Rattle.office_tables.proofs.interchanges.keep_taken.Goals as goal

pub returns-clause-writes : goal.returns-clause-writes
returns-clause-writes g c =
    let a = c.args in
    let it = c.insert_interchange.ensures in
    record {
      steps = λ clean inside.
          rw c.from.ensures at (steps_kept c.from.result a.number a.body.now a.reply.now (state g.S.Store a.tx.now.conn.now) (state g.S.Store c.insert_interchange.new.tx.conn.now) c.insert_interchange.result
          (it.writes.steps clean inside) (it.new clean inside));
      in_order = λ clean inside.
          rw c.from.ensures at (order_kept c.from.result a.number a.body.now a.reply.now (state g.S.Store a.tx.now.conn.now) (state g.S.Store c.insert_interchange.new.tx.conn.now) c.insert_interchange.result
          (it.writes.in_order clean inside) (it.new clean inside));
      keeps = it.writes.keeps;
      survives = it.writes.survives;
      fault = it.writes.fault;
    }
