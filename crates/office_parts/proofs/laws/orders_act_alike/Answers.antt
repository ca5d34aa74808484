use Rattle.office_parts.proofs.Orders.{acts_alike}
use Rattle.office_parts.proofs.laws.orders_act_alike.Goals as goal

pub returns : goal.returns
returns c = acts_alike
