-- Error codes (0085) of a CONTRL: 12 invalid value, 13 missing, 18 unspecified error, 25 test indicator not supported,
-- 28 references do not match, 29 control count does not match number of instances received.
use Rattle.std.specs.Prelude.{ℕ, Option, None, Some}
use Rattle.edi_syntax.specs.declared.interchange.SyntaxFault.{SyntaxFault}
use Rattle.edi_syntax.specs.declared.interchange.SyntaxFault.TheVariants.{TooLong, Service, Segment, NoEnvelope, Group, Version, Number, Moment, Test, MessageFrame, SegmentCount, MessageReference, Empty, ControlCount, ControlReference}
use Rattle.edi_messages.specs.declared.message.MessageFault.{MessageFault}
use Rattle.edi_messages.specs.declared.message.MessageFault.TheVariants.{OtherType, NoBgm, Code, Function, NoTransport, NoEquipment, EquipmentCount, TooMany, Memory}

-- in UCM
abbrev pub message_error : MessageFault → Option ℕ
message_error OtherType = Some 12
message_error NoBgm = Some 13
message_error Code = Some 12
message_error Function = Some 12
message_error NoTransport = Some 13
message_error NoEquipment = Some 13
message_error EquipmentCount = Some 29
message_error TooMany = Some 18
message_error Memory = None

-- in UCI; there is no answer to a text whose header can't be read
abbrev pub interchange_error : SyntaxFault → Option ℕ
interchange_error TooLong = None
interchange_error Service = None
interchange_error Segment = None
interchange_error NoEnvelope = None
interchange_error Group = None
interchange_error Version = None
interchange_error Number = None
interchange_error Moment = None
interchange_error Test = Some 25
interchange_error MessageFrame = Some 13
interchange_error SegmentCount = Some 29
interchange_error MessageReference = Some 28
interchange_error Empty = Some 13
interchange_error ControlCount = Some 29
interchange_error ControlReference = Some 28
