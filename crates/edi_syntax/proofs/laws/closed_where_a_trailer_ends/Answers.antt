use Rattle.edi_syntax.proofs.PositionLemmas.{closed_where_a_trailer_ends}
use Rattle.edi_syntax.proofs.laws.closed_where_a_trailer_ends.Goals as goal

pub returns : goal.returns
returns c = closed_where_a_trailer_ends
