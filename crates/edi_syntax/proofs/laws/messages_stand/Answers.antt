use Rattle.edi_syntax.proofs.BlockLemmas.{messages_stand as law}
use Rattle.edi_syntax.proofs.laws.messages_stand.Goals as goal

pub returns : goal.returns
returns c = law
