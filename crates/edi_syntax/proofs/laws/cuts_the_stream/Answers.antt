use Rattle.edi_syntax.proofs.BehindLemmas.{cuts_the_stream as law}
use Rattle.edi_syntax.proofs.laws.cuts_the_stream.Goals as goal

pub returns : goal.returns
returns c = law
