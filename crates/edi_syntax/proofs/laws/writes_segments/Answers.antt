use Rattle.edi_syntax.proofs.AdviceLemmas.{writes_segments as law}
use Rattle.edi_syntax.proofs.laws.writes_segments.Goals as goal

pub returns : goal.returns
returns c = law
