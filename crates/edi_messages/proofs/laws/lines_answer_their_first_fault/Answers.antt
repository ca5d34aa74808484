use Rattle.edi_messages.proofs.SurveyLemmas.{first_fault}
use Rattle.edi_messages.proofs.laws.lines_answer_their_first_fault.Goals as goal

pub returns : goal.returns
returns c = first_fault
