use Rattle.office_parts.proofs.DoneLemmas.{stays_done}
use Rattle.office_parts.proofs.laws.done_lines_stay.Goals as goal

pub returns : goal.returns
returns c = stays_done
