use Rattle.office_closing.proofs.DoneAwayLemmas.{put_away}
use Rattle.office_closing.proofs.laws.put_away_lists_are_away.Goals as goal

pub returns : goal.returns
returns c = put_away
