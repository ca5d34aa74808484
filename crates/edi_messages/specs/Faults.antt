-- Why a message is rejected, in the terms of directory D.95B.
use Rattle.std.specs.Prelude.{ℕ, Bool, true, false, not, ◌&&◌, ◌||◌, nat_lt, List, [], ◌∷◌, codes, Option, None, Some, is_none, count_by, if◌then◌else◌}
use Rattle.std.specs.{Option.{option_map_or, option_and_then}, List.{list_any, find}, Str.bytes_eq}
use Rattle.edi_syntax.specs.{Text.{Content, component_of, has_tag}, Numbers.is_count, Messages.Message}
use Rattle.edi_messages.specs.{Texts.is_name, Parts.{is_equipment, heading, is_qualified}, Types.message_type_of, Codes.order_meant, declared.codes.Codes.Codes}
use Rattle.edi_messages.specs.{Purposes.{CallContent, Purpose, purpose_with}, declared.order.OrderKind.OrderKind, declared.message.MessageType.MessageType}
use Rattle.edi_messages.specs.{declared.order.OrderKind.TheVariants.{ListDischarge, ListLoad}, declared.message.MessageFault.MessageFault}
use Rattle.edi_messages.specs.declared.message.MessageType.TheVariants.{Codeco, Coprar, Coarri}
use Rattle.edi_messages.specs.declared.message.MessageFault.TheVariants.{OtherType, NoBgm, Code, Function, NoTransport, NoEquipment, EquipmentCount, TooMany, Memory}

-- ---- what the message says of itself

-- the first BGM of the heading; 1001 document name code, 1225 message function
abbrev pub beginning : Message → Option Content
beginning message = find (has_tag (codes "BGM")) (heading message.segments)

abbrev pub document_name : Content → List ℕ
document_name segment = component_of segment 1 1

abbrev pub message_function : Content → List ℕ
message_function segment = component_of segment 3 1

-- the first TDT of the heading with 8051 20, main carriage; 8028 voyage, 8213 vessel
abbrev pub transport : Message → Option Content
transport message = find (is_qualified (codes "TDT") (codes "20")) (heading message.segments)

abbrev pub voyage_of : Content → List ℕ
voyage_of segment = component_of segment 2 1

abbrev pub vessel_of : Content → List ℕ
vessel_of segment = component_of segment 8 1

-- the first CNT of the whole message with 6069 16, number of equipments; 6066 that number
abbrev pub control : Message → Option Content
control message = find (is_qualified (codes "CNT") (codes "16")) message.segments

abbrev pub control_value : Content → List ℕ
control_value segment = component_of segment 1 2

-- an equipment (EQD) with 8053 CN, a container
abbrev pub is_container : Content → Bool
is_container segment = is_qualified (codes "EQD") (codes "CN") segment

-- 1225 is empty or 9, an original
abbrev pub is_original : Content → Bool
is_original segment = bytes_eq (message_function segment) [] || bytes_eq (message_function segment) (codes "9")

-- 1225 is 5, a replacement
abbrev pub is_replacement : Content → Bool
is_replacement segment = bytes_eq (message_function segment) (codes "5")

-- voyage and vessel are within the limits
abbrev pub names_call : Content → Bool
names_call segment = is_name (voyage_of segment) && is_name (vessel_of segment)

-- COPRAR and COARRI are about a vessel's call
abbrev pub speaks_of_call : MessageType → Bool
speaks_of_call Codeco = false
speaks_of_call Coprar = true
speaks_of_call Coarri = true

-- what the message orders for each of its containers
abbrev pub order_kind_of : Codes → Message → Option OrderKind
order_kind_of codes message =
    option_and_then (λ type.
    option_and_then (λ segment. order_meant codes type (document_name segment)) (beginning message))
    (message_type_of message.header)

-- what a vessel will discharge or load
abbrev pub is_list : OrderKind → Bool
is_list ListDischarge = true
is_list ListLoad = true
is_list kind = false

-- its document name is that of a list of what a vessel will discharge or load
abbrev pub names_list : Codes → Message → Bool
names_list codes message = option_map_or is_list (order_kind_of codes message) false

-- an original; or a replacement, if it is of a list
abbrev pub has_function : Codes → Message → Content → Bool
has_function codes message segment = is_original segment || (is_replacement segment && names_list codes message)

-- its function is that of a replacement
abbrev pub replaces_list : Message → Bool
replaces_list message = option_map_or is_replacement (beginning message) false

-- the call that the transport names, if it does
abbrev pub call_named : Content → CallContent
call_named segment = record { vessel = vessel_of segment; voyage = voyage_of segment }

abbrev pub call_if_named : Content → Option CallContent
call_if_named segment = if names_call segment then Some (call_named segment) else None

abbrev pub call_in : Message → Option CallContent
call_in message = option_and_then call_if_named (transport message)

-- what the message is for
abbrev pub purpose_of : Codes → Message → Option Purpose
purpose_of codes message = option_and_then (λ kind. purpose_with kind (call_in message)) (order_kind_of codes message)

-- ---- the faults

abbrev pub is_of_other_type : Message → Bool
is_of_other_type message = is_none (message_type_of message.header)

abbrev pub has_other_function : Codes → Message → Bool
has_other_function codes message = not (option_map_or (has_function codes message) (beginning message) true)

abbrev pub lacks_transport : Message → Bool
lacks_transport message =
    option_map_or speaks_of_call (message_type_of message.header) false
    && not (option_map_or names_call (transport message) false)

abbrev pub lacks_equipment : Message → Bool
lacks_equipment message = not (list_any is_container message.segments)

-- 6066 isn't one to six digits with the number of all equipments
abbrev pub miscounts_equipment : Message → Bool
miscounts_equipment message =
    not (option_map_or (λ segment. is_count (control_value segment) (count_by is_equipment message.segments))
    (control message) true)

-- the most containers that a message may have
abbrev pub most_containers : ℕ
most_containers = 999

abbrev pub has_too_many : Message → Bool
has_too_many message = nat_lt most_containers (count_by is_container message.segments)

-- whether the fault applies to the message; lack of memory is no fault of it
abbrev pub applies : Codes → Message → MessageFault → Bool
applies codes message OtherType = is_of_other_type message
applies codes message NoBgm = is_none (beginning message)
applies codes message Code = is_none (order_kind_of codes message)
applies codes message Function = has_other_function codes message
applies codes message NoTransport = lacks_transport message
applies codes message NoEquipment = lacks_equipment message
applies codes message EquipmentCount = miscounts_equipment message
applies codes message TooMany = has_too_many message
applies codes message Memory = false

abbrev pub message_faults : List MessageFault
message_faults = OtherType ∷ NoBgm ∷ Code ∷ Function ∷ NoTransport ∷ NoEquipment ∷ EquipmentCount ∷ TooMany ∷ []

-- the lowest fault that applies
abbrev pub fault_of : Codes → Message → Option MessageFault
fault_of codes message = find (applies codes message) message_faults
