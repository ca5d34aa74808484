-- Which kind of account may send which messages.
use Rattle.std.specs.{Prelude.{Bool, true, false, List, [], ◌∷◌, Option, is_some, unwrap_or}, List.find, Option.option_and_then}
use Rattle.edi_syntax.specs.Messages.{Message}
use Rattle.edi_messages.specs.{Faults.order_kind_of, declared.code.CodeTable.CodeTable, declared.codes.Codes.Codes, declared.codes.PartnerKind.PartnerKind}
use Rattle.edi_messages.specs.{declared.codes.PartnerKind.TheVariants.{Gate, Line, Quay, Yard}, declared.message.MessageFault.MessageFault}
use Rattle.edi_messages.specs.declared.message.MessageFault.TheVariants.{OtherType, NoBgm, Code}

-- Who has these codes may send the message: the message is of a type that the office takes, and its document name (1001)
-- is one of the codes of that type.
abbrev pub may_send : Codes → Message → Bool
may_send codes message = is_some (order_kind_of codes message)

-- the fault is of what the message orders: its type, its BGM or its document name
abbrev pub is_of_order : MessageFault → Bool
is_of_order OtherType = true
is_of_order NoBgm = true
is_of_order Code = true
is_of_order fault = false

-- the terminal's codes that accounts of a kind have
abbrev pub codes_of : CodeTable → PartnerKind → Codes
codes_of table kind = record { kind = kind; table = table }

-- the kinds of accounts, in the order in which they are tried
abbrev pub kinds : List PartnerKind
kinds = Gate ∷ Line ∷ Quay ∷ Yard ∷ []

-- the first kind of account that may send the message
abbrev pub kind_for : CodeTable → Message → Option PartnerKind
kind_for table message = find (λ kind. may_send (codes_of table kind) message) kinds

-- The kind of account that the messages want: that for the first message which any kind may send, or else that of the
-- gate.
abbrev pub kind_wanted : CodeTable → List Message → PartnerKind
kind_wanted table messages =
    unwrap_or (option_and_then (kind_for table) (find (λ message. is_some (kind_for table message)) messages)) Gate
