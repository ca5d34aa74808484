use Rattle.sqlite.specs.Order.{column}
use Rattle.office_loading.proofs.LackingLemmas.{size_read, size_refused}
use Rattle.office_loading.proofs.columns.size_at.Goals as goal

pub returns-in-Ok : goal.returns-in-Ok
returns-in-Ok c = size_read (column c.args.row.now c.args.at) c.in_ok-text.text.now c.in-Ok.size_type c.in_ok-text.ensures c.in-Ok.ensures

pub returns-in-Err : goal.returns-in-Err
returns-in-Err c = size_refused (column c.args.row.now c.args.at) c.in_ok-text.text.now c.in-Err.field-0 c.in_ok-text.ensures c.in-Err.ensures
