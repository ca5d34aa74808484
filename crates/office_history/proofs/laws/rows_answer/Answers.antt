use Rattle.office_history.proofs.Accounted.{answers}
use Rattle.office_history.proofs.laws.rows_answer.Goals as goal

pub returns : goal.returns
returns c = answers
