use Rattle.sqlite.specs.Held.{state}
use Rattle.office_tables.proofs.MadeLemmas.{reads_shown, reads_failed}
use Rattle.office_closing.proofs.register_reading.select.Goals as goal

pub returns-clause-reads : goal.returns-clause-reads
returns-clause-reads g c =
    let old = state g.S.Store c.args.conn.now in
    let new = state g.S.Store c.query_all.new.self in
    reads_shown c.args.query.now _ old new c.requires c.in_ok-query_all.field-0.items _ c.in_ok-query_all.ensures.ok c.query_all.ensures.mode c.query_all.ensures.survives

pub returns-in_err-query_all-clause-reads : goal.returns-in_err-query_all-clause-reads
returns-in_err-query_all-clause-reads g c =
    let old = state g.S.Store c.args.conn.now in
    let new = state g.S.Store c.query_all.new.self in
    reads_failed c.args.query.now _ old new c.requires _ _ c.from_residual.ensures.0 c.in_err-query_all.ensures.err c.query_all.ensures.mode c.query_all.ensures.survives
