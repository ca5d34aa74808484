-- The interchanges that came last, and what became of each (our own).
use Rattle.std.specs.Prelude.{ℕ, zero, suc, Bool, not, List, [], ◌∷◌, ◌++◌, count_by, filter, length, map, codes, decimal, slice_get, if◌then◌else◌, Option, None, Some, Result, Ok, Err}
use Rattle.std.specs.{List.{flat_map, list_any}, Option.option_map, Str.bytes_eq}
use Rattle.edi_messages.specs.{Message.MessageContent, declared.codes.PartnerKind.PartnerKind, declared.message.MessageFault.MessageFault}
use Rattle.edi_messages.specs.declared.order.OrderKind.{OrderKind}
use Rattle.office_admission.specs.Setups.{SetupContent}
use Rattle.serde_json.specs.{Data.{Data, null}, View.view}
use Rattle.office_reports.specs.{InterchangeLines.{kind_name, line_end, word_part}, Interchanges.{MessageRowContent, rows_of}, Names.line, ReplyValues.{items_in, text_in}}
use Rattle.office_reports.specs.{declared.last.Arrival.Arrival, declared.last.LastReport.LastReport, declared.last.LastRow.LastRow, declared.last.Settled.Settled}

-- an interchange that is kept: of which partner, counted from 1, its number, its text, and the JSON of its reply, if it
-- was taken
pub record ArrivalContent : Type 0 where
  pub partner : ℕ
  pub number : ℕ
  pub text : List ℕ
  pub reply : Option Data

-- ---- what became of it, by its reply

abbrev pub is_accepted : Data → Bool
is_accepted message = bytes_eq (text_in (codes "result") message) (codes "accepted")

abbrev pub is_refused : Data → Bool
is_refused line = bytes_eq (text_in (codes "outcome") line) (codes "refused")

-- the lines of messages; one that was rejected has none
abbrev pub lines_of : List Data → List Data
lines_of messages = flat_map (items_in (codes "lines")) messages

-- why lines were refused, or the message was rejected
abbrev pub reasons_of : List Data → List (List ℕ)
reasons_of lines = map (text_in (codes "reason")) (filter is_refused lines)

abbrev pub refusals_in : Data → List (List ℕ)
refusals_in message =
    if is_accepted message then reasons_of (items_in (codes "lines") message)
    else text_in (codes "fault") message ∷ []

-- each name once, where it comes first: those that are not among these yet
abbrev pub firsts_after : (seen names : List (List ℕ)) → List (List ℕ)
firsts_after seen [] = []
firsts_after seen (name ∷ names) =
    if list_any (bytes_eq name) seen then firsts_after seen names else name ∷ firsts_after (seen ++ name ∷ []) names

-- how many lines were done, how many refused, how many messages rejected, and why, each reason once
pub record SettledContent : Type 0 where
  pub done : ℕ
  pub refused : ℕ
  pub rejected : ℕ
  pub reasons : List (List ℕ)

abbrev pub settled_by : List Data → SettledContent
settled_by messages = record {
  done = count_by (λ line. not (is_refused line)) (lines_of messages);
  refused = count_by is_refused (lines_of messages);
  rejected = count_by (λ message. not (is_accepted message)) messages;
  reasons = firsts_after [] (flat_map refusals_in messages);
}

-- ---- what the report tells

-- the kind of the first message, if that could be read
abbrev pub kind_in : Result MessageContent MessageFault → Option OrderKind
kind_in (Ok message) = Some message.kind
kind_in (Err fault) = None

abbrev pub first_kind : List MessageRowContent → Option OrderKind
first_kind [] = None
first_kind (row ∷ rows) = kind_in row.reading

-- the account of the partner with that number, from 1
abbrev pub account_of : SetupContent → ℕ → Option (List ℕ × PartnerKind)
account_of setup zero = None
account_of setup (suc place) = slice_get setup.partners place

-- the code of the sender, its number, the kind of its first message, and what became of it, if it was taken
pub record LastRowContent : Type 0 where
  pub code : List ℕ
  pub number : ℕ
  pub kind : Option OrderKind
  pub settled : Option SettledContent

-- nothing of a partner without an account
abbrev pub row_by : SetupContent → ArrivalContent → Option (List ℕ × PartnerKind) → List LastRowContent
row_by setup arrival None = []
row_by setup arrival (Some account) = record {
  code = account.0;
  number = arrival.number;
  kind = first_kind (rows_of (record { kind = account.1; table = setup.codes }) arrival.text null);
  settled = option_map (λ reply. settled_by (items_in (codes "messages") reply)) arrival.reply;
} ∷ []

abbrev pub last_of : SetupContent → List ArrivalContent → List LastRowContent
last_of setup arrivals = flat_map (λ arrival. row_by setup arrival (account_of setup arrival.partner)) arrivals

-- ---- its text

abbrev pub kind_part : Option OrderKind → List ℕ
kind_part None = word_part (codes "-")
kind_part (Some kind) = word_part (kind_name kind)

-- DONE a REFUSED b REJECTED c, and the reasons; or WAITING
abbrev pub settled_part : Option SettledContent → List ℕ
settled_part None = word_part (codes "WAITING")
settled_part (Some settled) =
    word_part (codes "DONE") ++ word_part (decimal settled.done) ++ word_part (codes "REFUSED")
    ++ word_part (decimal settled.refused) ++ word_part (codes "REJECTED") ++ word_part (decimal settled.rejected)
    ++ flat_map word_part settled.reasons

-- PARTNER NUMBER KIND, and what became of it
abbrev pub last_line : LastRowContent → List ℕ
last_line row = row.code ++ word_part (decimal row.number) ++ kind_part row.kind ++ settled_part row.settled ++ line_end

abbrev pub last_text : List LastRowContent → List ℕ
last_text rows =
    line (codes "LAST" ∷ []) ++ flat_map last_line rows ++ line (decimal (length rows) ∷ codes "INTERCHANGES" ∷ [])

-- ---- as the code has it

abbrev pub arrival_content : Arrival → ArrivalContent
arrival_content arrival = record {
  partner = arrival.partner;
  number = arrival.number;
  text = arrival.text.items;
  reply = option_map view arrival.reply;
}

abbrev pub settled_content : Settled → SettledContent
settled_content settled = record {
  done = settled.done;
  refused = settled.refused;
  rejected = settled.rejected;
  reasons = map (λ reason. reason.now) settled.reasons.items;
}

abbrev pub last_row_content : LastRow → LastRowContent
last_row_content row = record {
  code = row.code.now;
  number = row.number;
  kind = row.kind;
  settled = option_map settled_content row.settled;
}

abbrev pub last_content : LastReport → List LastRowContent
last_content report = map last_row_content report.rows.items
