-- The kinds of answers.
use Rattle.office_replies.specs.{declared.deliver.Fault.Fault, declared.deliver.Response.Response}
use Rattle.office_replies.specs.declared.deliver.Response.TheVariants as response

-- taken now, or before; waiting; a clash; refused for a fault; not now
pub data AnswerKind : Type 0 where
  Taken : AnswerKind
  Repeat : AnswerKind
  Waiting : AnswerKind
  Clash : AnswerKind
  Refused : Fault → AnswerKind
  NotNow : AnswerKind

abbrev pub kind_of : Response → AnswerKind
kind_of (response.Taken body) = Taken
kind_of (response.Repeat body) = Repeat
kind_of (response.Waiting body) = Waiting
kind_of (response.Clash body) = Clash
kind_of (response.Refused fault) = Refused fault
kind_of (response.RefusedWithContrl fault body) = Refused fault
kind_of response.NotNow = NotNow
