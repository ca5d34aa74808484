use Rattle.std.proofs.lemmas.Result.{err_from_is_err_and}
use Rattle.office_loading.proofs.LackingLemmas.{read_more, all_refused}
use Rattle.office_loading.proofs.rows.read_all.Goals as goal

pub returns-in_err-record : goal.returns-in_err-record
returns-in_err-record g c =
    let within = c.loop-row-test.true in
    let p = err_from_is_err_and c.from_residual.result c.from_residual.ensures.1 in
    rw (p.1, p.2) (all_refused g.T.Record.is_said c.args.rows.now c.loop-row.row-index c.row-item.result c.in_err-record.field-0.0 within c.row-item.is c.in_err-record.ensures)

pub loop-row-preserved : goal.loop-row-preserved
loop-row-preserved g c = read_more g.T.Record.says c.args.rows.now c.loop-row.records.items c.append.new.records.items c.loop-row.row-index c.row-item.result c.in_ok-record.record c.loop-row-test.true c.row-item.is
    c.loop-row.invariant c.in_ok-record.ensures c.in_ok-append.ensures
