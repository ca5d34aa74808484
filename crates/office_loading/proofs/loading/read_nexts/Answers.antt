use Rattle.std.proofs.{Common.◌^◌, lemmas.Result.err_from_is_err_and}
use Rattle.sqlite.specs.Order.{Row, column}
use Rattle.office_loading.{specs.{Decoded.IsSaid, Columns.SaysNumber}, proofs.LackingLemmas.one_refused}
use Rattle.office_loading.proofs.loading.read_nexts.Goals as goal

pub returns-in_err-next-clause-err : goal.returns-in_err-next-clause-err
returns-in_err-next-clause-err c =
    let within = c.loop-row-test.true in
    let p = err_from_is_err_and c.from_residual.result c.from_residual.ensures.1 in
    rw (p.1, p.2) (one_refused (λ (r : Row). column r 3) (IsSaid (SaysNumber (2 ^ 32))) c.args.rows.now c.loop-row.row-index c.row-item.result c.in_err-next.field-0.0 within c.row-item.is c.in_err-next.ensures)
