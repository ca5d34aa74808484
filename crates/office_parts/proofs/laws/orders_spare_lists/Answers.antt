use Rattle.office_parts.proofs.BringingLemmas.{orders}
use Rattle.office_parts.proofs.laws.orders_spare_lists.Goals as goal

pub returns : goal.returns
returns c = orders
