-- The names of the faults of lines, as replies give them, and of what cuts a file.
use Rattle.std.specs.Prelude.{ℕ, List, codes, Option, None, Some}
use Rattle.edi_syntax.specs.declared.cutter.CutFault.{CutFault}
use Rattle.edi_messages.specs.{declared.line.LineFault.LineFault, declared.line.LineFault.TheVariants.{Form, CheckDigit, Size, Moment, SlotText}}
use Rattle.office_replies.specs.Names.{fault_name, message_fault_name}
use Rattle.office_explain.specs.declared.finding.Subject.{Subject}
use Rattle.edi_syntax.specs.declared.cutter.CutFault.TheVariants as cut
use Rattle.office_explain.specs.declared.finding.Subject.TheVariants as subject

abbrev pub line_fault_name : LineFault → List ℕ
line_fault_name Form = codes "Form"
line_fault_name CheckDigit = codes "CheckDigit"
line_fault_name Size = codes "Size"
line_fault_name Moment = codes "Moment"
line_fault_name SlotText = codes "SlotText"

abbrev pub cut_name : Option CutFault → List ℕ
cut_name None = codes "End"
cut_name (Some cut.TooLong) = codes "TooLong"
cut_name (Some cut.Service) = codes "Service"
cut_name (Some cut.Segment) = codes "Segment"
cut_name (Some cut.Memory) = codes "Memory"

-- the name of what was found, as the answer to a delivery gives it
abbrev pub subject_name : Subject → List ℕ
subject_name (subject.Cut fault) = cut_name fault
subject_name (subject.Interchange fault) = fault_name fault
subject_name (subject.Message message fault) = message_fault_name fault
subject_name (subject.Line message line fault) = line_fault_name fault
