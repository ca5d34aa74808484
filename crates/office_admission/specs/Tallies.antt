-- How what became of messages and their lines is counted.
use Rattle.std.specs.Prelude.{ℕ, ◌+◌, ◌-◌, ◌^◌, min, List, [], ◌∷◌, Option, None, Some, if◌then◌else◌}
use Rattle.edi_syntax.specs.{Moments.CivilMoment, Text.Content, Interchange.segments_in, Envelope.{header_of, messages_of}, Header.preparation}
use Rattle.edi_messages.specs.{declared.message.MessageFault.MessageFault, declared.codes.PartnerKind.PartnerKind}
use Rattle.partner_core.specs.Numbered.{with_number}
use Rattle.terminal_core.specs.{declared.change.Outcome.Outcome, declared.change.Reason.Reason}
use Rattle.office_replies.specs.{Messages.{VerdictContent, accepted, rejected, ReportContent}, declared.message_report.LineReport.LineReport}
use Rattle.office_admission.specs.{Admission.{admission, is_for}, Taking.{MachineState, codes_for, messages_taken, source_in}, declared.tally.Tally.Tally}
use Rattle.office_admission.specs.{declared.tally.RefusedLines.RefusedLines, declared.tally.RejectedMessages.RejectedMessages}
use Rattle.edi_messages.specs.declared.message.MessageFault.TheVariants as message
use Rattle.terminal_core.specs.declared.change.Outcome.TheVariants as outcome
use Rattle.terminal_core.specs.declared.change.Reason.TheVariants as reason

-- two counts together, as far as 64 bits go
abbrev pub capped_sum : ℕ → ℕ → ℕ
capped_sum count other = min (count + other) (2 ^ 64 - 1)

abbrev pub one_more : ℕ → ℕ
one_more count = capped_sum count 1

-- ---- one more

-- a line that is refused for that reason
abbrev pub with_refused : RefusedLines → Reason → RefusedLines
with_refused lines reason.Form = record lines { form = one_more lines.form }
with_refused lines reason.CheckDigit = record lines { check_digit = one_more lines.check_digit }
with_refused lines reason.Size = record lines { size = one_more lines.size }
with_refused lines reason.Moment = record lines { moment = one_more lines.moment }
with_refused lines reason.SlotText = record lines { slot_text = one_more lines.slot_text }
with_refused lines reason.AlreadyIn = record lines { already_in = one_more lines.already_in }
with_refused lines reason.NotIn = record lines { not_in = one_more lines.not_in }
with_refused lines reason.AlreadyListed = record lines { already_listed = one_more lines.already_listed }
with_refused lines reason.NotListed = record lines { not_listed = one_more lines.not_listed }
with_refused lines reason.ListLineDone = record lines { list_line_done = one_more lines.list_line_done }
with_refused lines (reason.Buried blocker) = record lines { buried = one_more lines.buried }
with_refused lines reason.NoSlot = record lines { no_slot = one_more lines.no_slot }
with_refused lines reason.SlotKind = record lines { slot_kind = one_more lines.slot_kind }
with_refused lines reason.Taken = record lines { taken = one_more lines.taken }
with_refused lines reason.OnAir = record lines { on_air = one_more lines.on_air }
with_refused lines reason.OnEmpty = record lines { on_empty = one_more lines.on_empty }
with_refused lines reason.NoRoom = record lines { no_room = one_more lines.no_room }
with_refused lines reason.VisitLimit = record lines { visit_limit = one_more lines.visit_limit }

-- a message that is rejected for that fault; lack of memory rejects none
abbrev pub with_rejected : RejectedMessages → MessageFault → RejectedMessages
with_rejected messages message.OtherType = record messages { other_type = one_more messages.other_type }
with_rejected messages message.NoBgm = record messages { no_bgm = one_more messages.no_bgm }
with_rejected messages message.Code = record messages { code = one_more messages.code }
with_rejected messages message.Function = record messages { function = one_more messages.function }
with_rejected messages message.NoTransport = record messages { no_transport = one_more messages.no_transport }
with_rejected messages message.NoEquipment = record messages { no_equipment = one_more messages.no_equipment }
with_rejected messages message.EquipmentCount = record messages { equipment_count = one_more messages.equipment_count }
with_rejected messages message.TooMany = record messages { too_many = one_more messages.too_many }
with_rejected messages message.Memory = messages

-- a line with that outcome
abbrev pub with_outcome : Tally → Outcome → Tally
with_outcome tally (outcome.Done slot) = record tally { done = one_more tally.done }
with_outcome tally outcome.Gone = record tally { gone = one_more tally.gone }
with_outcome tally outcome.Listed = record tally { listed = one_more tally.listed }
with_outcome tally (outcome.Refused reason) = record tally { refused = with_refused tally.refused reason }

-- ---- what is reported of an interchange

abbrev pub with_lines : Tally → List LineReport → Tally
with_lines tally [] = tally
with_lines tally (line ∷ lines) = with_lines (with_outcome tally line.outcome) lines

-- a message that is accepted counts by its lines, and one that is rejected by its fault
abbrev pub with_verdict : Tally → VerdictContent → Tally
with_verdict tally (accepted dropped lines) = with_lines tally lines
with_verdict tally (rejected fault code) = record tally { rejected = with_rejected tally.rejected fault }

abbrev pub with_reports : Tally → List ReportContent → Tally
with_reports tally [] = tally
with_reports tally (report ∷ reports) = with_reports (with_verdict tally report.verdict) reports

-- an interchange of whose messages that is reported
abbrev pub with_interchange : Tally → List ReportContent → Tally
with_interchange tally reports = with_reports (record tally { interchanges = one_more tally.interchanges }) reports

-- if the header has a moment
abbrev pub reports_at : MachineState → ℕ → PartnerKind → List Content → Option CivilMoment → List ReportContent
reports_at machine partner kind segments None = []
reports_at machine partner kind segments (Some opened) =
    (messages_taken machine.terminal (codes_for machine kind) (source_in partner (header_of segments)) opened
    (messages_of segments)).1

abbrev pub reports_of : MachineState → ℕ → List Content → Option PartnerKind → List ReportContent
reports_of machine partner segments None = []
reports_of machine partner segments (Some kind) =
    reports_at machine partner kind segments (preparation (header_of segments))

-- what is reported of the messages of a partner's interchange, order by order; nothing of one that is not admitted for it
abbrev pub interchange_reports : MachineState → ℕ → List ℕ → List ReportContent
interchange_reports machine partner text =
    if is_for partner (admission machine.parties text)
    then reports_of machine partner (segments_in text) (with_number machine.kinds partner)
    else []

-- ---- two tallies together

abbrev pub refused_sum : (lines others : RefusedLines) → RefusedLines
refused_sum lines others = record {
  form = capped_sum lines.form others.form;
  check_digit = capped_sum lines.check_digit others.check_digit;
  size = capped_sum lines.size others.size;
  moment = capped_sum lines.moment others.moment;
  slot_text = capped_sum lines.slot_text others.slot_text;
  already_in = capped_sum lines.already_in others.already_in;
  not_in = capped_sum lines.not_in others.not_in;
  already_listed = capped_sum lines.already_listed others.already_listed;
  not_listed = capped_sum lines.not_listed others.not_listed;
  list_line_done = capped_sum lines.list_line_done others.list_line_done;
  buried = capped_sum lines.buried others.buried;
  no_slot = capped_sum lines.no_slot others.no_slot;
  slot_kind = capped_sum lines.slot_kind others.slot_kind;
  taken = capped_sum lines.taken others.taken;
  on_air = capped_sum lines.on_air others.on_air;
  on_empty = capped_sum lines.on_empty others.on_empty;
  no_room = capped_sum lines.no_room others.no_room;
  visit_limit = capped_sum lines.visit_limit others.visit_limit;
}

abbrev pub rejected_sum : (messages others : RejectedMessages) → RejectedMessages
rejected_sum messages others = record {
  other_type = capped_sum messages.other_type others.other_type;
  no_bgm = capped_sum messages.no_bgm others.no_bgm;
  code = capped_sum messages.code others.code;
  function = capped_sum messages.function others.function;
  no_transport = capped_sum messages.no_transport others.no_transport;
  no_equipment = capped_sum messages.no_equipment others.no_equipment;
  equipment_count = capped_sum messages.equipment_count others.equipment_count;
  too_many = capped_sum messages.too_many others.too_many;
}

abbrev pub tally_sum : (tally other : Tally) → Tally
tally_sum tally other = record {
  interchanges = capped_sum tally.interchanges other.interchanges;
  done = capped_sum tally.done other.done;
  gone = capped_sum tally.gone other.gone;
  listed = capped_sum tally.listed other.listed;
  refused = refused_sum tally.refused other.refused;
  rejected = rejected_sum tally.rejected other.rejected;
}
