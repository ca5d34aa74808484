use Rattle.edi_syntax.proofs.BehindLemmas.{cuts_are_one as law}
use Rattle.edi_syntax.proofs.laws.cuts_are_one.Goals as goal

pub returns : goal.returns
returns c = law
