use Rattle.office_rows.proofs.Ordered.{rows_have_one_order}
use Rattle.office_rows.proofs.laws.rows_have_one_order.Goals as goal

pub returns : goal.returns
returns c = rows_have_one_order
