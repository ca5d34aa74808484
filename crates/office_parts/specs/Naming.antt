-- The lists that an interchange names: those that it adds lines to, loads or discharges by, or replaces.
use Rattle.std.specs.{Prelude.{◌≡◌, ℕ, Bool, false, List, [], ◌∷◌, Option, None, Some, Result, Ok, Err}, List.{flat_map, AllByRecursion}}
use Rattle.edi_syntax.specs.{Moments.CivilMoment, Interchange.segments_in, Envelope.{header_of, messages_of}, Header.preparation, Messages.Message}
use Rattle.edi_messages.specs.{Message.MessageContent, Purposes.CallContent, declared.code.CodeTable.CodeTable, declared.codes.Codes.Codes}
use Rattle.edi_messages.specs.{Orders.{OrderContent, gate_in, gate_out, move, list_discharge, list_load, discharge, load}, declared.order.OrderKind.OrderKind}
use Rattle.edi_messages.specs.{declared.codes.PartnerKind.PartnerKind, declared.message.MessageFault.MessageFault}
use Rattle.edi_messages.specs.declared.order.OrderKind.TheVariants.{ListDischarge, ListLoad}
use Rattle.partner_core.specs.Numbered.{with_number}
use Rattle.terminal_core.specs.{declared.change.Version.Version, declared.lines.Side.Side, declared.lines.Side.TheVariants.{Load, Discharge}}
use Rattle.office_admission.specs.{Readings.reading_by, Taking.list_of}
use Rattle.office_parts.specs.OwnLists.{ListName, list_name}
use Rattle.edi_messages.specs.declared.order.OrderKind.TheVariants as kind

-- an order at the gate or in the yard names none
abbrev pub lists_in_order : OrderContent → List ListName
lists_in_order (gate_in entry) = []
lists_in_order (gate_out container moment) = []
lists_in_order (move container slot) = []
lists_in_order (list_discharge call container) = list_name call Discharge ∷ []
lists_in_order (list_load call container port) = list_name call Load ∷ []
lists_in_order (discharge call entry) = list_name call Discharge ∷ []
lists_in_order (load call container moment) = list_name call Load ∷ []

-- what a message with that kind of order does with the containers of a call's list
abbrev pub side_named : OrderKind → Option Side
side_named ListLoad = Some Load
side_named ListDischarge = Some Discharge
side_named kind.Load = Some Load
side_named kind.Discharge = Some Discharge
side_named other = None

abbrev pub list_if_any : Option (CallContent × Side) → List ListName
list_if_any None = []
list_if_any (Some list) = list_name list.0 list.1 ∷ []

-- A message of a list, of loads or of discharges names the list of its call, whether it adds to it, replaces it or is
-- done by it. Any other names none, and so does one that is rejected.
abbrev pub list_read : Result MessageContent MessageFault → List ListName
list_read (Ok content) = list_if_any (list_of content.call (side_named content.kind))
list_read (Err fault) = []

abbrev pub lists_in_messages : Version → Codes → CivilMoment → List Message → List ListName
lists_in_messages version codes opened messages =
    flat_map (λ (message : Message). list_read (reading_by version codes opened message)) messages

-- none, if the header has no moment
abbrev pub lists_opened : Version → Codes → List Message → Option CivilMoment → List ListName
lists_opened version codes messages None = []
lists_opened version codes messages (Some opened) = lists_in_messages version codes opened messages

-- what the text names as that of a partner with these codes
abbrev pub lists_named : Version → Codes → List ℕ → List ListName
lists_named version codes text =
    lists_opened version codes (messages_of (segments_in text)) (preparation (header_of (segments_in text)))

abbrev pub lists_named_by : Version → CodeTable → List ℕ → Option PartnerKind → List ListName
lists_named_by version table text None = []
lists_named_by version table text (Some kind) = lists_named version (record { kind = kind; table = table }) text

-- what the text names as that of the partner, counted from 1, of those of these kinds
abbrev pub interchange_lists : Version → CodeTable → List PartnerKind → ℕ → List ℕ → List ListName
interchange_lists version table kinds partner text = lists_named_by version table text (with_number kinds partner)

-- none of these lists was put away
abbrev pub AreHere : (away : ListName → Bool) → List ListName → Type 0
AreHere away lists = AllByRecursion (λ (list : ListName). away list ≡ false) lists
