use Rattle.edi_messages.proofs.OrderForms.{orders_are_formed as law}
use Rattle.edi_messages.proofs.laws.orders_are_formed.Goals as goal

pub returns : goal.returns
returns c = law
