-- What the values that own their texts stand for.
use Rattle.std.specs.{Prelude.{map, string_bytes}, Option.option_map}
use Rattle.edi_messages.specs.{Purposes.CallContent, Orders.{EntryContent, OrderContent, gate_in, gate_out, move, list_discharge, list_load, discharge, load}}
use Rattle.edi_messages.specs.{Message.{LineContent, ordered, refused, MessageContent}, declared.call.Call.Call, declared.order.Entry.Entry}
use Rattle.edi_messages.specs.{declared.order.Order.Order, declared.order.Order.TheVariants.{GateIn, GateOut, Move, ListDischarge, ListLoad, Discharge, Load}}
use Rattle.edi_messages.specs.declared.message.Message.{Message}
use Rattle.edi_messages.specs.declared.line.Line as line

abbrev pub call_content : Call → CallContent
call_content call = record { vessel = string_bytes call.vessel; voyage = string_bytes call.voyage }

abbrev pub entry_content : Entry → EntryContent
entry_content entry = record {
  number = entry.number;
  size_type = entry.size_type;
  is_laden = entry.is_laden;
  booking = string_bytes entry.booking;
  moment = entry.moment;
  slot = entry.slot;
  kilos = entry.kilos;
}

abbrev pub order_content : Order → OrderContent
order_content (GateIn entry) = gate_in (entry_content entry)
order_content (GateOut number moment) = gate_out number moment
order_content (Move number slot) = move number slot
order_content (ListDischarge call number) = list_discharge (call_content call) number
order_content (ListLoad call number port) = list_load (call_content call) number (string_bytes port)
order_content (Discharge call entry) = discharge (call_content call) (entry_content entry)
order_content (Load call number moment) = load (call_content call) number moment

abbrev pub line_content : line.Line → LineContent
line_content (line.TheVariants.Order order) = ordered (order_content order)
line_content (line.TheVariants.Refusal refusal) = refused refusal.fault refusal.number

abbrev pub message_content : Message → MessageContent
message_content message = record {
  kind = message.kind;
  call = option_map call_content message.call;
  replaces = message.replaces;
  lines = map line_content message.lines.items;
}
