use Rattle.edi_messages.proofs.SameSegments.{contrls_are_counted as law}
use Rattle.edi_messages.proofs.laws.contrls_are_counted.Goals as goal

pub returns : goal.returns
returns c = law
