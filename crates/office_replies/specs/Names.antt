-- The names that replies give to reasons and faults.
use Rattle.std.specs.Prelude.{ℕ, List, codes}
use Rattle.terminal_core.specs.declared.change.Reason.{Reason}
use Rattle.terminal_core.specs.declared.change.Reason.TheVariants.{Form, CheckDigit, Size, Moment, SlotText, AlreadyIn, NotIn, AlreadyListed, NotListed, ListLineDone, Buried, NoSlot, SlotKind, Taken, OnAir, OnEmpty, NoRoom, VisitLimit}
use Rattle.edi_syntax.specs.declared.interchange.SyntaxFault.{SyntaxFault}
use Rattle.office_replies.specs.declared.deliver.Fault.{Fault}
use Rattle.edi_messages.specs.declared.message.MessageFault.{MessageFault}
use Rattle.edi_syntax.specs.declared.interchange.SyntaxFault.TheVariants as syntax
use Rattle.office_replies.specs.declared.deliver.Fault.TheVariants as fault
use Rattle.edi_messages.specs.declared.message.MessageFault.TheVariants as message

abbrev pub reason_name : Reason → List ℕ
reason_name Form = codes "Form"
reason_name CheckDigit = codes "CheckDigit"
reason_name Size = codes "Size"
reason_name Moment = codes "Moment"
reason_name SlotText = codes "SlotText"
reason_name AlreadyIn = codes "AlreadyIn"
reason_name NotIn = codes "NotIn"
reason_name AlreadyListed = codes "AlreadyListed"
reason_name NotListed = codes "NotListed"
reason_name ListLineDone = codes "ListLineDone"
reason_name (Buried blocker) = codes "Buried"
reason_name NoSlot = codes "NoSlot"
reason_name SlotKind = codes "SlotKind"
reason_name Taken = codes "Taken"
reason_name OnAir = codes "OnAir"
reason_name OnEmpty = codes "OnEmpty"
reason_name NoRoom = codes "NoRoom"
reason_name VisitLimit = codes "VisitLimit"

abbrev pub syntax_name : SyntaxFault → List ℕ
syntax_name syntax.TooLong = codes "TooLong"
syntax_name syntax.Service = codes "Service"
syntax_name syntax.Segment = codes "Segment"
syntax_name syntax.NoEnvelope = codes "NoEnvelope"
syntax_name syntax.Group = codes "Group"
syntax_name syntax.Version = codes "Version"
syntax_name syntax.Number = codes "Number"
syntax_name syntax.Moment = codes "Moment"
syntax_name syntax.Test = codes "Test"
syntax_name syntax.MessageFrame = codes "MessageFrame"
syntax_name syntax.SegmentCount = codes "SegmentCount"
syntax_name syntax.MessageReference = codes "MessageReference"
syntax_name syntax.Empty = codes "Empty"
syntax_name syntax.ControlCount = codes "ControlCount"
syntax_name syntax.ControlReference = codes "ControlReference"

abbrev pub fault_name : Fault → List ℕ
fault_name (fault.Syntax syntax) = syntax_name syntax
fault_name fault.UnknownSender = codes "UnknownSender"
fault_name fault.WrongRecipient = codes "WrongRecipient"

abbrev pub message_fault_name : MessageFault → List ℕ
message_fault_name message.OtherType = codes "OtherType"
message_fault_name message.NoBgm = codes "NoBgm"
message_fault_name message.Code = codes "Code"
message_fault_name message.Function = codes "Function"
message_fault_name message.NoTransport = codes "NoTransport"
message_fault_name message.NoEquipment = codes "NoEquipment"
message_fault_name message.EquipmentCount = codes "EquipmentCount"
message_fault_name message.TooMany = codes "TooMany"
message_fault_name message.Memory = codes "Memory"
