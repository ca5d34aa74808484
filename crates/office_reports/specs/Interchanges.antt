-- What came with an interchange: the text that is kept, what each line was read as, and what became of it (our own).
use Rattle.std.specs.{Prelude.{ℕ, ◌+◌, Bool, false, List, [], ◌∷◌, map, codes, encode_utf8_all, slice_get, string_bytes, Option, None, Some, Result}, Option.option_map}
use Rattle.std.specs.Result.{result_map_both}
use Rattle.box6346.specs.{declared.box_number.BoxNumber.BoxNumber, declared.size_type.SizeType.SizeType, declared.slot.Slot.Slot}
use Rattle.edi_syntax.specs.{Envelope.{header_of, messages_of}, Faults.fault_of, Header.preparation, Interchange.segments_in, Messages.{Message, message_reference}}
use Rattle.edi_syntax.specs.{Moments.CivilMoment, Text.Content, declared.interchange.SyntaxFault.SyntaxFault}
use Rattle.edi_messages.specs.{Message.{LineContent, MessageContent, ordered, reading, refused}, Owned.message_content, declared.codes.Codes.Codes}
use Rattle.edi_messages.specs.Orders.{EntryContent, gate_in, gate_out, move, list_discharge, list_load, discharge, load}
use Rattle.edi_messages.specs.{declared.line.LineFault.LineFault, declared.message.MessageFault.MessageFault}
use Rattle.serde_json.specs.Data.{Data}
use Rattle.office_reports.specs.{ReplyValues.{items_in, text_in}, declared.interchanges.InterchangeReport.InterchangeReport}
use Rattle.office_reports.specs.{declared.interchanges.LineFacts.LineFacts, declared.interchanges.LineOutcome.LineOutcome, declared.interchanges.MessageRow.MessageRow}

-- ---- what a line was read as

-- the container, and what the line says of it: its size-type and whether it is full, when it came or left, the slot that
-- is asked for, the booking, the gross weight in kilograms (0: none is stated), the port of discharge; and why it gives
-- no order, if it gives none
pub record FactsContent : Type 0 where
  pub container : Option BoxNumber
  pub size_type : Option SizeType
  pub is_laden : Bool
  pub moment : Option CivilMoment
  pub slot : Option Slot
  pub booking : List ℕ
  pub kilos : ℕ
  pub port : List ℕ
  pub fault : Option LineFault

abbrev pub no_facts : FactsContent
no_facts = record {
  container = None;
  size_type = None;
  is_laden = false;
  moment = None;
  slot = None;
  booking = [];
  kilos = 0;
  port = [];
  fault = None;
}

abbrev pub entry_facts : EntryContent → FactsContent
entry_facts entry = record {
  container = Some entry.number;
  size_type = Some entry.size_type;
  is_laden = entry.is_laden;
  moment = Some entry.moment;
  slot = entry.slot;
  booking = entry.booking;
  kilos = entry.kilos;
  port = [];
  fault = None;
}

abbrev pub facts_of : LineContent → FactsContent
facts_of (ordered (gate_in entry)) = entry_facts entry
facts_of (ordered (gate_out number moment)) = record no_facts { container = Some number; moment = Some moment }
facts_of (ordered (move number slot)) = record no_facts { container = Some number; slot = Some slot }
facts_of (ordered (list_discharge call number)) = record no_facts { container = Some number }
facts_of (ordered (list_load call number port)) = record no_facts { container = Some number; port = port }
facts_of (ordered (discharge call entry)) = entry_facts entry
facts_of (ordered (load call number moment)) = record no_facts { container = Some number; moment = Some moment }
facts_of (refused why number) = record no_facts { container = number; fault = Some why }

-- ---- what became of it

-- by the reply that is kept: the outcome's name, the container's slot, the reason of a refusal and the container on top;
-- empty where there is none
pub record OutcomeContent : Type 0 where
  pub name : List ℕ
  pub slot : List ℕ
  pub reason : List ℕ
  pub blocker : List ℕ

abbrev pub outcome_of : Data → OutcomeContent
outcome_of line = record {
  name = text_in (codes "outcome") line;
  slot = text_in (codes "slot") line;
  reason = text_in (codes "reason") line;
  blocker = text_in (codes "blocker") line;
}

-- those of a message's lines, in their order; none where the reply has no such message
abbrev pub outcomes_in : Option Data → List OutcomeContent
outcomes_in None = []
outcomes_in (Some message) = map outcome_of (items_in (codes "lines") message)

-- ---- what the report tells

-- a message by its reference (0062): what it orders, or why it is rejected, and what became of its lines
pub record MessageRowContent : Type 0 where
  pub reference : List ℕ
  pub reading : Result MessageContent MessageFault
  pub outcomes : List OutcomeContent

abbrev pub message_row : Codes → CivilMoment → Message → Option Data → MessageRowContent
message_row codes_sent opened message reply = record {
  reference = encode_utf8_all (message_reference message);
  reading = reading codes_sent opened message;
  outcomes = outcomes_in reply;
}

-- the messages from that place on, each with what the reply has at its place
abbrev pub rows_from : Codes → CivilMoment → (place : ℕ) → List Message → (replies : List Data) → List MessageRowContent
rows_from codes_sent opened place [] replies = []
rows_from codes_sent opened place (message ∷ messages) replies =
    message_row codes_sent opened message (slice_get replies place)
    ∷ rows_from codes_sent opened (place + 1) messages replies

-- they are read as of the moment of the header
abbrev pub rows_at : Codes → List Content → List Data → Option CivilMoment → List MessageRowContent
rows_at codes_sent segments replies None = []
rows_at codes_sent segments replies (Some opened) = rows_from codes_sent opened 0 (messages_of segments) replies

-- a text with a fault has no messages that are read
abbrev pub rows_unless : Codes → List Content → List Data → Option SyntaxFault → List MessageRowContent
rows_unless codes_sent segments replies None = rows_at codes_sent segments replies (preparation (header_of segments))
rows_unless codes_sent segments replies (Some fault) = []

abbrev pub rows_of : Codes → (text : List ℕ) → (reply : Data) → List MessageRowContent
rows_of codes_sent text reply =
    rows_unless codes_sent (segments_in text) (items_in (codes "messages") reply) (fault_of text)

-- an interchange that is kept: of whom, under which number, for which number it waits, if it waits, its text, and its
-- messages
pub record InterchangeContent : Type 0 where
  pub code : List ℕ
  pub number : ℕ
  pub next : Option ℕ
  pub text : List ℕ
  pub messages : List MessageRowContent

abbrev pub interchange_of : List ℕ → ℕ → Option ℕ → Codes → (text : List ℕ) → (reply : Data) → InterchangeContent
interchange_of code number next codes_sent text reply =
    record { code = code; number = number; next = next; text = text; messages = rows_of codes_sent text reply }

-- ---- as the code has it

abbrev pub facts_content : LineFacts → FactsContent
facts_content facts = record {
  container = facts.container;
  size_type = facts.size_type;
  is_laden = facts.is_laden;
  moment = facts.moment;
  slot = facts.slot;
  booking = facts.booking.now;
  kilos = facts.kilos;
  port = facts.port.now;
  fault = facts.fault;
}

abbrev pub outcome_content : LineOutcome → OutcomeContent
outcome_content outcome = record {
  name = outcome.name.now;
  slot = outcome.slot.now;
  reason = outcome.reason.now;
  blocker = outcome.blocker.now;
}

abbrev pub row_content : MessageRow → MessageRowContent
row_content row = record {
  reference = string_bytes row.reference;
  reading = result_map_both message_content (λ fault. fault) row.reading;
  outcomes = map outcome_content row.outcomes.items;
}

abbrev pub interchange_content : InterchangeReport → InterchangeContent
interchange_content report = record {
  code = report.code.now;
  number = report.number;
  next = report.next;
  text = report.text.now;
  messages = map row_content report.messages.items;
}
