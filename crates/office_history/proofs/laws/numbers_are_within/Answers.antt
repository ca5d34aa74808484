use Rattle.office_history.proofs.Accounted.{text_within}
use Rattle.office_history.proofs.laws.numbers_are_within.Goals as goal

pub returns : goal.returns
returns c = text_within
