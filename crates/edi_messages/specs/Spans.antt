-- What the spans of the code stand for: what the code relies on, and no caller has to read.
use Rattle.std.specs.Prelude.{ℕ, List}
use Rattle.edi_syntax.specs.Segment.{content}
use Rattle.edi_messages.specs.{Parts.{EquipmentGroup, part_left}, Faults.call_named, Purposes.{CallContent, Purpose}, Orders.EntryContent}
use Rattle.edi_messages.specs.{declared.line.Group.Group, declared.call.CallSpan.CallSpan, declared.order.EntryFacts.EntryFacts}
use Rattle.edi_messages.specs.declared.call.PurposeSpan.{PurposeSpan}
use Rattle.edi_messages.specs.Purposes as purpose
use Rattle.edi_messages.specs.declared.call.PurposeSpan as span

abbrev pub group_content : Group → EquipmentGroup
group_content group = record { equipment = content group.equipment; details = part_left group.details }

abbrev pub call_spanned : CallSpan → CallContent
call_spanned call = call_named (content call.transport)

-- an entry with its booking
abbrev pub entry_with : List ℕ → EntryFacts → EntryContent
entry_with booking facts = record {
  number = facts.number;
  size_type = facts.size_type;
  is_laden = facts.is_laden;
  booking = booking;
  moment = facts.moment;
  slot = facts.slot;
  kilos = facts.kilos;
}

abbrev pub purpose_spanned : PurposeSpan → Purpose
purpose_spanned span.TheVariants.GateIn = purpose.gate_in
purpose_spanned span.TheVariants.GateOut = purpose.gate_out
purpose_spanned span.TheVariants.Move = purpose.yard_move
purpose_spanned (span.TheVariants.ListDischarge call) = purpose.discharge_list (call_spanned call)
purpose_spanned (span.TheVariants.ListLoad call) = purpose.load_list (call_spanned call)
purpose_spanned (span.TheVariants.Discharge call) = purpose.discharge_report (call_spanned call)
purpose_spanned (span.TheVariants.Load call) = purpose.load_report (call_spanned call)
