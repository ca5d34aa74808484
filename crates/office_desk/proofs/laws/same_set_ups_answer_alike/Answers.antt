use Rattle.office_desk.proofs.OwnNumbers.{answers_alike}
use Rattle.office_desk.proofs.laws.same_set_ups_answer_alike.Goals as goal

pub returns : goal.returns
returns c = answers_alike
