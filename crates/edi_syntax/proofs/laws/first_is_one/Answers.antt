use Rattle.edi_syntax.proofs.CutLemmas.{first_is_one}
use Rattle.edi_syntax.proofs.laws.first_is_one.Goals as goal

pub returns : goal.returns
returns c = first_is_one
