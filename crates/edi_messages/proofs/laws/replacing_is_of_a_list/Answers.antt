use Rattle.edi_messages.proofs.OrderForms.{replacing_is_of_a_list as law}
use Rattle.edi_messages.proofs.laws.replacing_is_of_a_list.Goals as goal

pub returns : goal.returns
returns c = law
