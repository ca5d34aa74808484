-- Laws of what a message says.
use Rattle.std.specs.{Prelude.{◌≡◌, true, None, Ok, is_some}, Result.result_err}
use Rattle.edi_syntax.specs.{Moments.CivilMoment, Messages.Message}
use Rattle.edi_messages.specs.{Parts.EquipmentGroup, Purposes.{Purpose, kind_of}, Faults.{is_list, fault_of}, LineFaults.line_fault_in, Orders.order_of}
use Rattle.edi_messages.specs.{Message.{MessageContent, message_of, reading}, declared.codes.Codes.Codes}

-- A message to which no fault applies is read for a purpose.
abbrev pub FaultlessAreRead : Type 0
FaultlessAreRead =
    (codes : Codes) (message : Message) → fault_of codes message ≡ None
    → (purpose : Purpose)
    × ((opened : CivilMoment) → reading codes opened message ≡ Ok (message_of purpose opened message))

-- What a line is refused for is the first of its faults, and a line without fault is an order.
abbrev pub LinesAnswerTheirFirstFault : Type 0
LinesAnswerTheirFirstFault =
    (purpose : Purpose) (opened : CivilMoment) (group : EquipmentGroup)
    → result_err (order_of purpose opened group) ≡ line_fault_in (kind_of purpose) group

-- A message that replaces is of a list, and names the call whose list it is.
abbrev pub ReplacingIsOfAList : Type 0
ReplacingIsOfAList =
    (codes : Codes) (opened : CivilMoment) (message : Message) (content : MessageContent)
    → reading codes opened message ≡ Ok content → content.replaces ≡ true
    → (is_list content.kind ≡ true) × (is_some content.call ≡ true)
