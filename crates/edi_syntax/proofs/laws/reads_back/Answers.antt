use Rattle.edi_syntax.proofs.AdviceLemmas.{reads_back as law}
use Rattle.edi_syntax.proofs.laws.reads_back.Goals as goal

pub returns : goal.returns
returns c = law
