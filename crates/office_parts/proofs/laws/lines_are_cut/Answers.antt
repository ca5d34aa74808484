use Rattle.office_parts.proofs.Cut.{lines_are_cut}
use Rattle.office_parts.proofs.laws.lines_are_cut.Goals as goal

pub returns : goal.returns
returns c = lines_are_cut
