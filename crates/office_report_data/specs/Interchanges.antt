-- The report on an interchange as JSON: an object with each member always, null where there is nothing.
use Rattle.std.specs.Prelude.{ℕ, ◌+◌, Bool, false, List, [], ◌∷◌, codes, encode_utf8_all, slice_get, Option, None, Some, Result, Ok, Err}
use Rattle.box6346.specs.{declared.size_type.SizeType.SizeType, declared.slot.Slot.Slot}
use Rattle.edi_syntax.specs.Moments.{CivilMoment, moment_text}
use Rattle.edi_messages.specs.{Message.{LineContent, MessageContent}, Purposes.CallContent, declared.line.LineFault.LineFault}
use Rattle.edi_messages.specs.declared.message.MessageFault.{MessageFault}
use Rattle.office_replies.specs.Names.{message_fault_name}
use Rattle.serde_json.specs.{Data.{Data, array, boolean, null, string, number, unsigned, object, member, no_members, put, Members}, View.items_of}
use Rattle.office_reports.specs.{InterchangeLines.{kind_name, line_fault_name}, Interchanges.{FactsContent, InterchangeContent, MessageRowContent, OutcomeContent, facts_of}}
use Rattle.office_reports.specs.Names.{slot_name}
use Rattle.office_report_data.specs.{Rows.rows_data, Words.{container_or_null, load_word, number_or_null, or_null, text_or_null}}

-- ---- a line

abbrev pub outcome_data : OutcomeContent → Data
outcome_data outcome =
    object (member (codes "blocker") (text_or_null outcome.blocker) (member (codes "name") (string outcome.name)
    (member (codes "reason") (text_or_null outcome.reason) (member (codes "slot") (text_or_null outcome.slot) no_members))))

abbrev pub load_data : Option SizeType → Bool → Data
load_data None is_laden = null
load_data (Some size_type) is_laden = string (load_word is_laden)

unfoldable pub line_object : (place : ℕ) → FactsContent → (outcome : Data) → Data
line_object place facts outcome =
    object (member (codes "booking") (text_or_null facts.booking) (member (codes "container") (container_or_null facts.container)
    (member (codes "fault") (or_null (λ why. string (line_fault_name why)) facts.fault)
    (member (codes "gross") (number_or_null facts.kilos) (member (codes "line") (number (unsigned (place + 1)))
    (member (codes "load") (load_data facts.size_type facts.is_laden)
    (member (codes "moment") (or_null (λ moment. string (moment_text moment)) facts.moment)
    (member (codes "outcome") outcome (member (codes "port") (text_or_null facts.port)
    (member (codes "size_type") (or_null (λ (size_type : SizeType). string size_type) facts.size_type)
    (member (codes "slot") (or_null (λ slot. string (slot_name slot)) facts.slot) no_members)))))))))))

abbrev pub line_data : (place : ℕ) → FactsContent → Option OutcomeContent → Data
line_data place facts outcome = line_object place facts (or_null outcome_data outcome)

abbrev pub lines_data : (place : ℕ) → List LineContent → List OutcomeContent → List Data
lines_data place [] outcomes = []
lines_data place (first ∷ lines) outcomes =
    line_data place (facts_of first) (slice_get outcomes place) ∷ lines_data (place + 1) lines outcomes

-- ---- a message, and the whole

abbrev pub call_data : CallContent → Data
call_data call = object (member (codes "vessel") (string call.vessel) (member (codes "voyage") (string call.voyage) no_members))

abbrev pub message_object : (call fault kind : Data) → (lines : List Data) → (reference : List ℕ) → (replaces : Bool) → Data
message_object call fault kind lines reference replaces =
    object (member (codes "call") call (member (codes "fault") fault (member (codes "kind") kind
    (member (codes "lines") (array (items_of lines)) (member (codes "reference") (string reference)
    (member (codes "replaces") (boolean replaces) no_members))))))

-- what it orders; or why it is rejected, and no lines
abbrev pub read_data : (reference : List ℕ) → List OutcomeContent → Result MessageContent MessageFault → Data
read_data reference outcomes (Ok message) =
    message_object (or_null call_data message.call) null (string (kind_name message.kind)) (lines_data 0 message.lines outcomes)
    reference message.replaces
read_data reference outcomes (Err why) = message_object null (string (message_fault_name why)) null [] reference false

abbrev pub message_data : MessageRowContent → Data
message_data row = read_data row.reference row.outcomes row.reading

-- its text with each byte as the character of its number; `next` is the number that it waits for
abbrev pub interchange_data : InterchangeContent → Data
interchange_data report =
    object (member (codes "messages") (rows_data message_data report.messages)
    (member (codes "next") (or_null (λ next. number (unsigned next)) report.next)
    (member (codes "number") (number (unsigned report.number)) (member (codes "partner") (string report.code)
    (member (codes "text") (string (encode_utf8_all report.text)) no_members)))))

-- ---- as the code has it

-- an object's members, with these among them: a line's number, and what became of it
unfoldable pub with_place : (place : ℕ) → (outcome : Data) → Members → Members
with_place place outcome members = put (codes "outcome") outcome (put (codes "line") (number (unsigned (place + 1))) members)

-- with these among them: which container a line is about, and why it gives no order
unfoldable pub with_container : FactsContent → Members → Members
with_container facts members =
    put (codes "size_type") (or_null (λ (size_type : SizeType). string size_type) facts.size_type)
    (put (codes "load") (load_data facts.size_type facts.is_laden)
    (put (codes "fault") (or_null (λ why. string (line_fault_name why)) facts.fault)
    (put (codes "container") (container_or_null facts.container) members)))

-- with these among them: what else a line states
unfoldable pub with_stated : FactsContent → Members → Members
with_stated facts members =
    put (codes "slot") (or_null (λ slot. string (slot_name slot)) facts.slot)
    (put (codes "port") (text_or_null facts.port)
    (put (codes "moment") (or_null (λ moment. string (moment_text moment)) facts.moment)
    (put (codes "gross") (number_or_null facts.kilos) (put (codes "booking") (text_or_null facts.booking) members))))
