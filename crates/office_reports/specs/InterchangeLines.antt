-- The text of the report on an interchange.
use Rattle.std.specs.Prelude.{ℕ, ◌+◌, ◌==◌, Bool, List, [], ◌∷◌, ◌++◌, length, codes, decimal, encode_utf8_all, slice_get, if◌then◌else◌, Option, None, Some, Result, Ok, Err}
use Rattle.std.specs.{List.flat_map, Str.bytes_eq}
use Rattle.box6346.specs.{declared.box_number.BoxNumber.BoxNumber, declared.size_type.SizeType.SizeType, declared.slot.Slot.Slot}
use Rattle.edi_syntax.specs.Moments.{CivilMoment, moment_text}
use Rattle.edi_messages.specs.{Message.{LineContent, MessageContent}, Purposes.CallContent, declared.line.LineFault.LineFault}
use Rattle.edi_messages.specs.{declared.message.MessageFault.MessageFault, declared.order.OrderKind.OrderKind}
use Rattle.office_replies.specs.Names.{message_fault_name}
use Rattle.office_reports.specs.{Interchanges.{FactsContent, InterchangeContent, MessageRowContent, OutcomeContent, facts_of}, Names.{line, load_name, slot_name}}
use Rattle.edi_messages.specs.declared.line.LineFault.TheVariants as fault
use Rattle.edi_messages.specs.declared.order.OrderKind.TheVariants as kind

-- ---- words

-- the kinds as the set-up names them
abbrev pub kind_name : OrderKind → List ℕ
kind_name kind.GateIn = codes "gate-in"
kind_name kind.GateOut = codes "gate-out"
kind_name kind.Move = codes "yard-move"
kind_name kind.ListDischarge = codes "discharge-list"
kind_name kind.ListLoad = codes "load-list"
kind_name kind.Discharge = codes "discharge-report"
kind_name kind.Load = codes "load-report"

abbrev pub line_fault_name : LineFault → List ℕ
line_fault_name fault.Form = codes "Form"
line_fault_name fault.CheckDigit = codes "CheckDigit"
line_fault_name fault.Size = codes "Size"
line_fault_name fault.Moment = codes "Moment"
line_fault_name fault.SlotText = codes "SlotText"

-- a word after a space, and one after its name
unfoldable pub word_part : List ℕ → List ℕ
word_part word = codes " " ++ word

unfoldable pub named_part : (name word : List ℕ) → List ℕ
named_part name word = word_part name ++ word_part word

unfoldable pub line_end : List ℕ
line_end = codes "\n"

-- ---- its text: a line of a message

abbrev pub container_part : Option BoxNumber → List ℕ
container_part None = []
container_part (Some number) = word_part number

-- SIZE FULL, or EMPTY
abbrev pub size_part : Option SizeType → Bool → List ℕ
size_part None is_laden = []
size_part (Some size_type) is_laden = named_part size_type (load_name is_laden)

abbrev pub moment_part : Option CivilMoment → List ℕ
moment_part None = []
moment_part (Some moment) = word_part (moment_text moment)

-- SLOT s
abbrev pub slot_part : Option Slot → List ℕ
slot_part None = []
slot_part (Some slot) = named_part (codes "SLOT") (slot_name slot)

-- a name and a text that is not empty
abbrev pub text_part : (name text : List ℕ) → List ℕ
text_part name text = if length text == 0 then [] else named_part name text

-- GROSS w, in kilograms
abbrev pub gross_part : ℕ → List ℕ
gross_part kilos = if kilos == 0 then [] else named_part (codes "GROSS") (decimal kilos)

-- FAULT f
abbrev pub fault_part : Option LineFault → List ℕ
fault_part None = []
fault_part (Some why) = named_part (codes "FAULT") (line_fault_name why)

-- what is stated of the container
abbrev pub stated_part : FactsContent → List ℕ
stated_part facts =
    text_part (codes "BOOKING") facts.booking ++ gross_part facts.kilos ++ text_part (codes "PORT") facts.port
    ++ fault_part facts.fault

abbrev pub read_part : FactsContent → List ℕ
read_part facts =
    container_part facts.container ++ size_part facts.size_type facts.is_laden ++ moment_part facts.moment
    ++ slot_part facts.slot ++ stated_part facts

-- a word that need not be there
abbrev pub word_if_any : List ℕ → List ℕ
word_if_any word = if length word == 0 then [] else word_part word

abbrev pub outcome_word : List ℕ → List ℕ
outcome_word name =
    if bytes_eq name (codes "done") then codes "DONE"
    else if bytes_eq name (codes "gone") then codes "GONE"
    else if bytes_eq name (codes "refused") then codes "REFUSED"
    else codes "LISTED"

-- DONE SLOT, GONE, LISTED, or REFUSED REASON and the container on top; nothing as long as it waits
abbrev pub outcome_part : Option OutcomeContent → List ℕ
outcome_part None = []
outcome_part (Some outcome) =
    word_part (outcome_word outcome.name) ++ word_if_any outcome.slot ++ word_if_any outcome.reason
    ++ word_if_any outcome.blocker

-- at a place from 0: the line's number from 1, what it was read as, and what became of it
abbrev pub row_text : (place : ℕ) → FactsContent → Option OutcomeContent → List ℕ
row_text place facts outcome = decimal (place + 1) ++ read_part facts ++ outcome_part outcome ++ line_end

abbrev pub lines_from : (place : ℕ) → List LineContent → List OutcomeContent → List ℕ
lines_from place [] outcomes = []
lines_from place (first ∷ lines) outcomes =
    row_text place (facts_of first) (slice_get outcomes place) ++ lines_from (place + 1) lines outcomes

-- ---- a message, and the whole

abbrev pub call_part : Option CallContent → List ℕ
call_part None = []
call_part (Some call) = named_part call.vessel call.voyage

abbrev pub replaces_part : Bool → List ℕ
replaces_part replaces = if replaces then word_part (codes "REPLACES") else []

unfoldable pub message_front : (reference : List ℕ) → List ℕ
message_front reference = codes "MESSAGE" ++ word_part reference

-- MESSAGE REFERENCE KIND, the call that it is about, and whether it replaces the call's list
abbrev pub accepted_text : (reference : List ℕ) → MessageContent → List OutcomeContent → List ℕ
accepted_text reference message outcomes =
    message_front reference ++ word_part (kind_name message.kind) ++ call_part message.call
    ++ replaces_part message.replaces ++ line_end ++ lines_from 0 message.lines outcomes

-- MESSAGE REFERENCE REJECTED FAULT
abbrev pub rejected_text : (reference : List ℕ) → MessageFault → List ℕ
rejected_text reference why =
    line (codes "MESSAGE" ∷ reference ∷ codes "REJECTED" ∷ message_fault_name why ∷ [])

abbrev pub read_text : (reference : List ℕ) → List OutcomeContent → Result MessageContent MessageFault → List ℕ
read_text reference outcomes (Ok message) = accepted_text reference message outcomes
read_text reference outcomes (Err why) = rejected_text reference why

abbrev pub message_text : MessageRowContent → List ℕ
message_text row = read_text row.reference row.outcomes row.reading

-- INTERCHANGE PARTNER NUMBER TAKEN, or WAITING FOR NEXT
abbrev pub head_line : (code : List ℕ) → (number : ℕ) → (next : Option ℕ) → List ℕ
head_line code number None = line (codes "INTERCHANGE" ∷ code ∷ decimal number ∷ codes "TAKEN" ∷ [])
head_line code number (Some next) =
    line (codes "INTERCHANGE" ∷ code ∷ decimal number ∷ codes "WAITING" ∷ codes "FOR" ∷ decimal next ∷ [])

-- TEXT, and the text as it is kept, each byte as the character of its number
unfoldable pub kept_part : (text : List ℕ) → List ℕ
kept_part text = codes "TEXT\n" ++ encode_utf8_all text ++ codes "\n"

abbrev pub interchange_text : InterchangeContent → List ℕ
interchange_text report =
    head_line report.code report.number report.next ++ flat_map message_text report.messages ++ kept_part report.text
