use Rattle.edi_messages.proofs.ContrlFaults.{contrls_are_without_fault as law}
use Rattle.edi_messages.proofs.laws.contrls_are_without_fault.Goals as goal

pub returns : goal.returns
returns c = law
