use Rattle.edi_syntax.proofs.PositionLemmas.{refused_where_nothing_goes_on}
use Rattle.edi_syntax.proofs.laws.refused_where_nothing_goes_on.Goals as goal

pub returns : goal.returns
returns c = refused_where_nothing_goes_on
