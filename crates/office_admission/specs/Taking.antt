-- What taking an interchange does to the terminal, and what is replied, by the rules of a version of the office. The
-- words without a version are by the rules in force, those of the newest.
use Rattle.std.specs.{Prelude.{◌≡◌, ℕ, List, [], ◌∷◌, ◌++◌, map, Option, None, Some, Result, Ok, Err, encode_utf8_all, if◌then◌else◌}, Option.unwrap_or}
use Rattle.box6346.specs.declared.box_number.BoxNumber.{BoxNumber}
use Rattle.edi_syntax.specs.{Moments.CivilMoment, Text.Content, Interchange.segments_in, Envelope.{header_of, messages_of}}
use Rattle.edi_syntax.specs.{Header.{control_number, preparation}, Messages.{Message, message_reference}}
use Rattle.edi_messages.specs.{Contrl.contrl_text, ErrorCodes.message_error, Message.{LineContent, ordered, refused, MessageContent}, Purposes.CallContent}
use Rattle.edi_messages.specs.{Orders.{OrderContent, gate_in, gate_out, move, list_discharge, list_load, discharge, load}, declared.code.CodeTable.CodeTable}
use Rattle.edi_messages.specs.{declared.codes.Codes.Codes, declared.line.LineFault.LineFault, declared.message.MessageFault.MessageFault}
use Rattle.edi_messages.specs.{declared.order.OrderKind.OrderKind, declared.order.OrderKind.TheVariants.{ListDischarge, ListLoad}}
use Rattle.edi_messages.specs.{declared.codes.PartnerKind.PartnerKind, declared.message.Verdict.Verdict}
use Rattle.edi_messages.specs.declared.message.Verdict.TheVariants.{Accepted, Rejected}
use Rattle.partner_core.specs.Numbered.{with_number}
use Rattle.terminal_core.specs.{State.TerminalState, Rows.ChangeContent, Step.step_by, Versions.newest, Drop.list_drop, declared.change.Reason.Reason}
use Rattle.terminal_core.specs.{declared.change.Outcome.TheVariants.Refused, declared.change.Reason.TheVariants.{Form, CheckDigit, Size, Moment, SlotText}}
use Rattle.terminal_core.specs.{declared.lines.Side.Side, declared.lines.Side.TheVariants.{Load, Discharge}, declared.change.Source.Source}
use Rattle.terminal_core.specs.declared.change.Version.{Version}
use Rattle.yard_core.specs.declared.plan.Block.{Block}
use Rattle.office_replies.specs.declared.message_report.LineReport.{LineReport}
use Rattle.office_replies.specs.Messages.{VerdictContent, accepted, rejected, ReportContent, reply_content_text}
use Rattle.office_admission.specs.{Parties.{Parties, partner_kinds, parties_of}, declared.setup.Setup.Setup, Admission.{admission, is_for}, Readings.reading_by}
use Rattle.edi_messages.specs.declared.line.LineFault.TheVariants as line

-- what a terminal is set up with, and the terminal: who it and its partners are, the codes of document names, what each
-- partner is, the blocks of its yard, how many visits it may record
pub record MachineState : Type 0 where
  pub parties : Parties
  pub codes : CodeTable
  pub kinds : List PartnerKind
  pub blocks : List Block
  pub visit_limit : ℕ
  pub terminal : TerminalState

-- those of a set-up, over a terminal
abbrev pub machine_of : Setup → TerminalState → MachineState
machine_of setup terminal = record {
  parties = parties_of setup;
  codes = setup.codes;
  kinds = partner_kinds setup.partners.items;
  blocks = setup.blocks.items;
  visit_limit = setup.visit_limit;
  terminal = terminal;
}

-- ---- a line

abbrev pub number_ordered : OrderContent → BoxNumber
number_ordered (gate_in entry) = entry.number
number_ordered (gate_out number moment) = number
number_ordered (move number slot) = number
number_ordered (list_discharge call number) = number
number_ordered (list_load call number port) = number
number_ordered (discharge call entry) = entry.number
number_ordered (load call number moment) = number

-- a line's fault as the reason of its refusal
abbrev pub reason_of : LineFault → Reason
reason_of line.Form = Form
reason_of line.CheckDigit = CheckDigit
reason_of line.Size = Size
reason_of line.Moment = Moment
reason_of line.SlotText = SlotText

-- what the line leaves of the terminal, and what is reported of it: an order is carried out, any other line changes
-- nothing
abbrev pub line_taken_by : Version → TerminalState → Source → LineContent → TerminalState × LineReport
line_taken_by version state source (ordered order) = (
  (step_by version state source order).state,
  record { number = Some (number_ordered order); outcome = (step_by version state source order).outcome },
)
line_taken_by version state source (refused fault number) =
    (state, record { number = number; outcome = Refused (reason_of fault) })

-- its changes of the terminal's rows
abbrev pub line_changes_by : Version → TerminalState → Source → LineContent → List ChangeContent
line_changes_by version state source (ordered order) = (step_by version state source order).changes
line_changes_by version state source (refused fault number) = []

-- ---- a message

abbrev pub before_report : TerminalState × List LineReport → LineReport → TerminalState × List LineReport
before_report later report = (later.0, report ∷ later.1)

-- the lines, one after the other
abbrev pub lines_taken_by : Version → TerminalState → Source → List LineContent → TerminalState × List LineReport
lines_taken_by version state source [] = (state, [])
lines_taken_by version state source (line ∷ lines) =
    before_report (lines_taken_by version (line_taken_by version state source line).0 source lines)
    (line_taken_by version state source line).1

abbrev pub lines_changes_by : Version → TerminalState → Source → List LineContent → List ChangeContent
lines_changes_by version state source [] = []
lines_changes_by version state source (line ∷ lines) =
    line_changes_by version state source line
    ++ lines_changes_by version (line_taken_by version state source line).0 source lines

-- what a vessel does with the containers of a list
abbrev pub side_listed : OrderKind → Option Side
side_listed ListLoad = Some Load
side_listed ListDischarge = Some Discharge
side_listed kind = None

abbrev pub list_of : Option CallContent → Option Side → Option (CallContent × Side)
list_of (Some call) (Some side) = Some (call, side)
list_of call side = None

-- the list that the message replaces, if it replaces one
abbrev pub list_replaced : MessageContent → Option (CallContent × Side)
list_replaced content = if content.replaces then list_of content.call (side_listed content.kind) else None

-- what is left where a list is dropped, or none is; how many lines are gone, if one is; the changes
pub record ListClearing : Type 0 where
  pub state : TerminalState
  pub dropped : Option ℕ
  pub changes : List ChangeContent

abbrev pub clearing_of : TerminalState → Option (CallContent × Side) → ListClearing
clearing_of state None = record { state = state; dropped = None; changes = [] }
clearing_of state (Some list) = record {
  state = (list_drop state list.0 list.1).state;
  dropped = Some (list_drop state list.0 list.1).count;
  changes = (list_drop state list.0 list.1).changes;
}

-- what the message clears before its lines are taken
abbrev pub clearing_for : TerminalState → MessageContent → ListClearing
clearing_for state content = clearing_of state (list_replaced content)

-- A fault of a message rejects it, with its code (0085). Want of memory has no code and is no fault of a message
-- (`applies`), so the last case is of none.
abbrev pub rejection_by : MessageFault → Option ℕ → VerdictContent
rejection_by fault (Some code) = rejected fault code
rejection_by fault None = accepted None []

-- A message that replaces a list drops it, and then its lines are taken. One that is rejected drops nothing and gives no
-- orders.
abbrev pub verdict_on_by : Version → TerminalState → Source → Result MessageContent MessageFault →
    TerminalState × VerdictContent
verdict_on_by version state source (Ok content) = (
  (lines_taken_by version (clearing_for state content).state source content.lines).0,
  accepted (clearing_for state content).dropped
      (lines_taken_by version (clearing_for state content).state source content.lines).1,
)
verdict_on_by version state source (Err fault) = (state, rejection_by fault (message_error fault))

abbrev pub verdict_changes_by : Version → TerminalState → Source → Result MessageContent MessageFault →
    List ChangeContent
verdict_changes_by version state source (Ok content) =
    (clearing_for state content).changes
    ++ lines_changes_by version (clearing_for state content).state source content.lines
verdict_changes_by version state source (Err fault) = []

abbrev pub report_on : Message → VerdictContent → ReportContent
report_on message verdict = record { reference = encode_utf8_all (message_reference message); verdict = verdict }

-- ---- an interchange

abbrev pub before_message : TerminalState × List ReportContent → ReportContent → TerminalState × List ReportContent
before_message later report = (later.0, report ∷ later.1)

-- the messages of a partner with these codes, one after the other
abbrev pub messages_taken_by : Version → TerminalState → Codes → Source → CivilMoment → List Message →
    TerminalState × List ReportContent
messages_taken_by version state codes source opened [] = (state, [])
messages_taken_by version state codes source opened (message ∷ messages) =
    before_message (messages_taken_by version
    (verdict_on_by version state source (reading_by version codes opened message)).0 codes source opened messages)
    (report_on message (verdict_on_by version state source (reading_by version codes opened message)).1)

abbrev pub messages_changes_by : Version → TerminalState → Codes → Source → CivilMoment → List Message →
    List ChangeContent
messages_changes_by version state codes source opened [] = []
messages_changes_by version state codes source opened (message ∷ messages) =
    verdict_changes_by version state source (reading_by version codes opened message)
    ++ messages_changes_by version
    (verdict_on_by version state source (reading_by version codes opened message)).0 codes source opened messages

-- what the CONTRL says of a message
abbrev pub verdict_of : VerdictContent → Verdict
verdict_of (accepted dropped lines) = Accepted
verdict_of (rejected fault code) = Rejected code

abbrev pub verdicts_of : List ReportContent → List Verdict
verdicts_of reports = map (λ report. verdict_of report.verdict) reports

-- the reply: the CONTRL, and what became of each message
abbrev pub reply_to : List Content → List ReportContent → List ℕ
reply_to segments reports =
    reply_content_text (encode_utf8_all
    (contrl_text (header_of segments) (messages_of segments) (verdicts_of reports))) reports

abbrev pub nothing_taken : MachineState → MachineState × List ℕ
nothing_taken machine = (machine, reply_content_text [] [])

abbrev pub with_messages : MachineState → List Content → TerminalState × List ReportContent → MachineState × List ℕ
with_messages machine segments taken = (record machine { terminal = taken.0 }, reply_to segments taken.1)

abbrev pub codes_for : MachineState → PartnerKind → Codes
codes_for machine kind = record { kind = kind; table = machine.codes }

abbrev pub source_in : ℕ → Content → Source
source_in partner header = record { partner = partner; number = unwrap_or (control_number header) 0 }

-- if the header has a moment
abbrev pub taken_at_by : Version → MachineState → ℕ → PartnerKind → List Content → Option CivilMoment →
    MachineState × List ℕ
taken_at_by version machine partner kind segments None = nothing_taken machine
taken_at_by version machine partner kind segments (Some opened) =
    with_messages machine segments
    (messages_taken_by version machine.terminal (codes_for machine kind) (source_in partner (header_of segments)) opened
    (messages_of segments))

abbrev pub taken_of_by : Version → MachineState → ℕ → List Content → Option PartnerKind → MachineState × List ℕ
taken_of_by version machine partner segments None = nothing_taken machine
taken_of_by version machine partner segments (Some kind) =
    taken_at_by version machine partner kind segments (preparation (header_of segments))

-- the interchange of a partner, counted from 1. A text that is not admitted for that partner changes nothing.
abbrev pub interchange_taken_by : Version → MachineState → ℕ → List ℕ → MachineState × List ℕ
interchange_taken_by version machine partner text =
    if is_for partner (admission machine.parties text)
    then taken_of_by version machine partner (segments_in text) (with_number machine.kinds partner)
    else nothing_taken machine

-- ---- its changes

abbrev pub changes_at_by : Version → MachineState → ℕ → PartnerKind → List Content → Option CivilMoment →
    List ChangeContent
changes_at_by version machine partner kind segments None = []
changes_at_by version machine partner kind segments (Some opened) =
    messages_changes_by version machine.terminal (codes_for machine kind) (source_in partner (header_of segments))
    opened (messages_of segments)

abbrev pub changes_of_by : Version → MachineState → ℕ → List Content → Option PartnerKind → List ChangeContent
changes_of_by version machine partner segments None = []
changes_of_by version machine partner segments (Some kind) =
    changes_at_by version machine partner kind segments (preparation (header_of segments))

-- what taking the interchange changes of the terminal's rows, order by order
abbrev pub interchange_changes_by : Version → MachineState → ℕ → List ℕ → List ChangeContent
interchange_changes_by version machine partner text =
    if is_for partner (admission machine.parties text)
    then changes_of_by version machine partner (segments_in text) (with_number machine.kinds partner)
    else []

-- ---- by the rules in force

abbrev pub line_taken : TerminalState → Source → LineContent → TerminalState × LineReport
line_taken = line_taken_by newest

abbrev pub line_changes : TerminalState → Source → LineContent → List ChangeContent
line_changes = line_changes_by newest

abbrev pub lines_taken : TerminalState → Source → List LineContent → TerminalState × List LineReport
lines_taken = lines_taken_by newest

abbrev pub lines_changes : TerminalState → Source → List LineContent → List ChangeContent
lines_changes = lines_changes_by newest

abbrev pub verdict_on : TerminalState → Source → Result MessageContent MessageFault → TerminalState × VerdictContent
verdict_on = verdict_on_by newest

abbrev pub verdict_changes : TerminalState → Source → Result MessageContent MessageFault → List ChangeContent
verdict_changes = verdict_changes_by newest

abbrev pub messages_taken : TerminalState → Codes → Source → CivilMoment → List Message →
    TerminalState × List ReportContent
messages_taken = messages_taken_by newest

abbrev pub messages_changes : TerminalState → Codes → Source → CivilMoment → List Message → List ChangeContent
messages_changes = messages_changes_by newest

abbrev pub taken_at : MachineState → ℕ → PartnerKind → List Content → Option CivilMoment → MachineState × List ℕ
taken_at = taken_at_by newest

abbrev pub taken_of : MachineState → ℕ → List Content → Option PartnerKind → MachineState × List ℕ
taken_of = taken_of_by newest

abbrev pub interchange_taken : MachineState → ℕ → List ℕ → MachineState × List ℕ
interchange_taken = interchange_taken_by newest

abbrev pub interchange_changes : MachineState → ℕ → List ℕ → List ChangeContent
interchange_changes = interchange_changes_by newest

-- ---- what a call clears

-- the terminal, how many lines were dropped, if a list was, and the changes that were added are those that are cleared
pub record Clears (left : ListClearing) (now : TerminalState) (dropped : Option ℕ) (old new : List ChangeContent) : Type 0 where
  pub state : now ≡ left.state
  pub dropped_is : dropped ≡ left.dropped
  pub changes : new ≡ old ++ left.changes
