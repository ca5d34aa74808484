use Rattle.office_closing.proofs.DayLemmas.{tells_the_day}
use Rattle.office_closing.proofs.laws.taken_tells_the_day.Goals as goal

pub returns : goal.returns
returns c = tells_the_day
