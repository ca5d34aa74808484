use Rattle.sqlite.specs.Order.{column}
use Rattle.office_loading.proofs.LackingLemmas.{container_read, container_refused}
use Rattle.office_loading.proofs.columns.container_at.Goals as goal

pub returns-in-Ok : goal.returns-in-Ok
returns-in-Ok c = container_read (column c.args.row.now c.args.at) c.in_ok-text.text.now c.in-Ok.container c.in_ok-text.ensures c.in-Ok.ensures

pub returns-in-Err : goal.returns-in-Err
returns-in-Err c = container_refused (column c.args.row.now c.args.at) c.in_ok-text.text.now c.in-Err.field-0 c.in_ok-text.ensures c.in-Err.ensures
