-- Answers to deliveries: their status, their body, and how bad they are.
use Rattle.std.specs.Prelude.{ℕ, List, codes, string_bytes}
use Rattle.edi_syntax.specs.declared.interchange.SyntaxFault.{SyntaxFault}
use Rattle.office_replies.specs.{Refusals.refusal_text, declared.deliver.Fault.Fault, declared.deliver.Response.Response, declared.deliver.Worst.Worst}
use Rattle.office_replies.specs.declared.deliver.Response.TheVariants.{Taken, Repeat, Waiting, Clash, Refused, RefusedWithContrl, NotNow}
use Rattle.edi_syntax.specs.declared.interchange.SyntaxFault.TheVariants as syntax
use Rattle.office_replies.specs.declared.deliver.Fault.TheVariants as fault
use Rattle.office_replies.specs.declared.deliver.Worst.TheVariants as worst

-- 413 for a text that is too long, 400 for every other fault
abbrev pub syntax_status : SyntaxFault → ℕ
syntax_status syntax.TooLong = 413
syntax_status fault = 400

abbrev pub fault_status : Fault → ℕ
fault_status (fault.Syntax fault) = syntax_status fault
fault_status fault.UnknownSender = 400
fault_status fault.WrongRecipient = 400

abbrev pub status_of : Response → ℕ
status_of (Taken body) = 200
status_of (Repeat body) = 200
status_of (Waiting body) = 202
status_of (Clash body) = 409
status_of (Refused fault) = fault_status fault
status_of (RefusedWithContrl fault body) = fault_status fault
status_of NotNow = 503

abbrev pub body_of : Response → List ℕ
body_of (Taken body) = string_bytes body
body_of (Repeat body) = string_bytes body
body_of (Waiting body) = string_bytes body
body_of (Clash body) = string_bytes body
body_of (Refused fault) = refusal_text fault
body_of (RefusedWithContrl fault body) = string_bytes body
body_of NotNow = codes "{\"answer\":\"not now\"}"

abbrev pub worst_of : Response → Worst
worst_of (Taken body) = worst.Fine
worst_of (Repeat body) = worst.Fine
worst_of (Waiting body) = worst.Fine
worst_of (Clash body) = worst.Refused
worst_of (Refused fault) = worst.Refused
worst_of (RefusedWithContrl fault body) = worst.Refused
worst_of NotNow = worst.NotNow

-- the worse of two: NotNow before Refused before Fine
abbrev pub worse_of : Worst → Worst → Worst
worse_of worst.NotNow other = worst.NotNow
worse_of worst.Refused worst.NotNow = worst.NotNow
worse_of worst.Refused other = worst.Refused
worse_of worst.Fine other = other
