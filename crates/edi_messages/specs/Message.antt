-- A message as its orders, or the fault by which it is rejected.
use Rattle.std.specs.{Prelude.{Bool, List, map, filter, Option, None, Some, Result, Ok, Err}, Option.option_map_or, Result.result_ok}
use Rattle.box6346.specs.declared.box_number.BoxNumber.{BoxNumber}
use Rattle.edi_syntax.specs.{Moments.CivilMoment, Text.Content, Messages.Message}
use Rattle.edi_messages.specs.{Parts.{EquipmentGroup, groups_of}, Faults.{is_container, purpose_of, fault_of, replaces_list}, declared.line.LineFault.LineFault}
use Rattle.edi_messages.specs.{Purposes.{CallContent, Purpose, kind_of, call_of}, Orders.{OrderContent, read_number, order_of}, declared.codes.Codes.Codes}
use Rattle.edi_messages.specs.{declared.order.OrderKind.OrderKind, declared.message.MessageFault.MessageFault, declared.message.MessageFault.TheVariants.Code}

-- an order, or the fault of the line with its container, if the number could be read
pub data LineContent : Type 0 where
  ordered : OrderContent → LineContent
  refused : LineFault → Option BoxNumber → LineContent

abbrev pub line_read : Option BoxNumber → Result OrderContent LineFault → LineContent
line_read number (Ok order) = ordered order
line_read number (Err fault) = refused fault number

-- the line of a group
abbrev pub line_of : Purpose → CivilMoment → EquipmentGroup → LineContent
line_of purpose opened group = line_read (result_ok (read_number group)) (order_of purpose opened group)

abbrev pub is_container_group : EquipmentGroup → Bool
is_container_group group = is_container group.equipment

-- the lines of the containers' groups, in order
abbrev pub lines_of : Purpose → CivilMoment → List Content → List LineContent
lines_of purpose opened segments = map (line_of purpose opened) (filter is_container_group (groups_of segments))

pub record MessageContent : Type 0 where
  pub kind : OrderKind
  pub call : Option CallContent
  pub replaces : Bool
  pub lines : List LineContent

abbrev pub message_of : Purpose → CivilMoment → Message → MessageContent
message_of purpose opened message = record {
  kind = kind_of purpose;
  call = call_of purpose;
  replaces = replaces_list message;
  lines = lines_of purpose opened message.segments;
}

abbrev pub judged_message :
    Option MessageFault → Result MessageContent MessageFault → Result MessageContent MessageFault
judged_message (Some fault) message = Err fault
judged_message None message = message

-- What a message says to a terminal that got it from a partner with these codes, in an interchange of that moment: the
-- lowest fault that applies, or else its lines. A message without fault has a purpose (Laws.antt), so the last case is
-- of none.
abbrev pub reading : Codes → CivilMoment → Message → Result MessageContent MessageFault
reading codes opened message =
    judged_message (fault_of codes message)
    (option_map_or (λ purpose. Ok (message_of purpose opened message)) (purpose_of codes message) (Err Code))
