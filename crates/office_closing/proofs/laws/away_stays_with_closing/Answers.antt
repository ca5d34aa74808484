use Rattle.office_closing.proofs.DoneAwayLemmas.{closing_keeps}
use Rattle.office_closing.proofs.laws.away_stays_with_closing.Goals as goal

pub returns : goal.returns
returns c = closing_keeps
