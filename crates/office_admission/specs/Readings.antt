-- What a message says by the rules of a version of the office. Those of the newest read it as it stands.
use Rattle.std.specs.{Prelude.{◌≡◌, Bool, true, not, ◌&&◌, map, Result, Ok, Err, if◌then◌else◌}, List.find, Option.option_map_or, Result.result_err}
use Rattle.edi_syntax.specs.{Moments.CivilMoment, Messages.Message}
use Rattle.edi_messages.specs.{Faults.{beginning, is_original, names_list, replaces_list, applies, message_faults}, declared.codes.Codes.Codes}
use Rattle.edi_messages.specs.{Message.{LineContent, ordered, refused, MessageContent, reading}, Orders.{EntryContent, OrderContent, gate_in, discharge}}
use Rattle.edi_messages.specs.{declared.message.MessageFault.MessageFault, declared.message.MessageFault.TheVariants.Function}
use Rattle.terminal_core.specs.{declared.change.Version.Version, declared.change.Version.TheVariants.{First, Second, Third}}

-- ---- without weights

-- an entry whose weight is not read
abbrev pub unweighed_entry : EntryContent → EntryContent
unweighed_entry entry = record entry { kilos = 0 }

abbrev pub unweighed_order : OrderContent → OrderContent
unweighed_order (gate_in entry) = gate_in (unweighed_entry entry)
unweighed_order (discharge call entry) = discharge call (unweighed_entry entry)
unweighed_order order = order

abbrev pub unweighed_line : LineContent → LineContent
unweighed_line (ordered order) = ordered (unweighed_order order)
unweighed_line (refused fault number) = refused fault number

abbrev pub unweighed_message : MessageContent → MessageContent
unweighed_message content = record content { lines = map unweighed_line content.lines }

abbrev pub unweighed_reading : Result MessageContent MessageFault → Result MessageContent MessageFault
unweighed_reading (Ok content) = Ok (unweighed_message content)
unweighed_reading (Err fault) = Err fault

-- ---- by the rules of a version

-- the message replaces a list, as its function and its document name say
abbrev pub is_list_replaced : Codes → Message → Bool
is_list_replaced codes message = replaces_list message && names_list codes message

-- The third version reads the gross weight, the ones before it read none. The second lets a message replace a list. In
-- the first only an original has a function that is known, so a message that replaces a list is rejected for its
-- function: that its document name is of a list says that no lower fault applies to it.
abbrev pub reading_by : Version → Codes → CivilMoment → Message → Result MessageContent MessageFault
reading_by First codes opened message =
    if is_list_replaced codes message then Err Function else unweighed_reading (reading codes opened message)
reading_by Second codes opened message = unweighed_reading (reading codes opened message)
reading_by Third codes opened message = reading codes opened message

-- ---- the first version, by faults of its own

-- whether a fault applies to the message by the rules of the first version: only an original has a function that is
-- known
abbrev pub applies_first : Codes → Message → MessageFault → Bool
applies_first codes message Function = not (option_map_or is_original (beginning message) true)
applies_first codes message fault = applies codes message fault

-- What the first version rejects a message for is the lowest fault that applies by its rules.
abbrev pub FirstVersionRejectsByItsFaults : Type 0
FirstVersionRejectsByItsFaults =
    (codes : Codes) (opened : CivilMoment) (message : Message)
    → result_err (reading_by First codes opened message) ≡ find (applies_first codes message) message_faults
