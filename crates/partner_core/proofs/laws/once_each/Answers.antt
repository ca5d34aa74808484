use Rattle.partner_core.proofs.OnceEach.{no_pair_twice, order-of}
use Rattle.partner_core.proofs.laws.once_each.Goals as goal

pub returns-clause-once : goal.returns-clause-once
returns-clause-once c = no_pair_twice

pub returns-clause-in_number_order : goal.returns-clause-in_number_order
returns-clause-in_number_order c = order-of
