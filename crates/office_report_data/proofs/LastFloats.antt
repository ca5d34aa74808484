-- What came, and what came last, have no float.
use Rattle.std.proofs.Common.{◌≡◌, ℕ, ◌+◌, List, [], ◌∷◌, Bool, true, false, Ok, Err, None, Some, Option, Result, map, slice_get, refl}
use Rattle.serde_json.specs.{Data.{Data, string}, View.items_of, Written.{has_float, items_have_float}}
use Rattle.box6346.specs.declared.size_type.SizeType.{SizeType}
use Rattle.edi_messages.specs.{Message.{LineContent, MessageContent}, declared.message.MessageFault.MessageFault}
use Rattle.office_reports.specs.{Interchanges.{FactsContent, InterchangeContent, MessageRowContent, OutcomeContent, facts_of}, Last.{LastRowContent, SettledContent}}
use Rattle.office_report_data.specs.Interchanges.{call_data, interchange_data, line_data, line_object, lines_data, load_data, message_data, outcome_data, read_data}
use Rattle.office_report_data.specs.{Last.{kind_data, last_row_data, settled_data}, Words.or_null}
use Rattle.office_report_data.proofs.FloatLemmas.{number_has_none, option_has_none, text_has_none}

-- ---- what came last

texts_have_none : (texts : List (List ℕ)) → items_have_float (items_of (map string texts)) ≡ false
texts_have_none [] = refl
texts_have_none (text ∷ texts) = texts_have_none texts

settled_has_none : (settled : SettledContent) → has_float (settled_data settled) ≡ false
settled_has_none settled = rw (texts_have_none settled.reasons) refl

pub last_row_has_no_float : (row : LastRowContent) → has_float (last_row_data row) ≡ false
last_row_has_no_float row =
    rw (option_has_none kind_data row.kind (λ kind. refl)) (rw (option_has_none settled_data row.settled settled_has_none) refl)

-- ---- what came

outcome_has_none : (outcome : OutcomeContent) → has_float (outcome_data outcome) ≡ false
outcome_has_none outcome =
    rw (text_has_none outcome.blocker) (rw (text_has_none outcome.reason) (rw (text_has_none outcome.slot) refl))

load_has_none : (size_type : Option SizeType) (is_laden : Bool) → has_float (load_data size_type is_laden) ≡ false
load_has_none None is_laden = refl
load_has_none (Some size_type) is_laden = refl

line_has_none : (place : ℕ) (facts : FactsContent) (outcome : Option OutcomeContent) → has_float (line_data place facts outcome) ≡ false
unfolding line_object
line_has_none place facts outcome =
    rw (text_has_none facts.booking) (rw (option_has_none _ facts.container (λ number. refl))
    (rw (option_has_none _ facts.fault (λ why. refl)) (rw (number_has_none facts.kilos)
    (rw (load_has_none facts.size_type facts.is_laden) (rw (option_has_none _ facts.moment (λ moment. refl))
    (rw (option_has_none outcome_data outcome outcome_has_none) (rw (text_has_none facts.port)
    (rw (option_has_none _ facts.size_type (λ size_type. refl)) (rw (option_has_none _ facts.slot (λ slot. refl)) refl)))))))))

lines_have_none : (place : ℕ) (lines : List LineContent) (outcomes : List OutcomeContent)
    → items_have_float (items_of (lines_data place lines outcomes)) ≡ false
lines_have_none place [] outcomes = refl
lines_have_none place (line ∷ lines) outcomes =
    rw (line_has_none place (facts_of line) (slice_get outcomes place)) (lines_have_none (place + 1) lines outcomes)

read_has_none : (reference : List ℕ) (outcomes : List OutcomeContent) (read : Result MessageContent MessageFault)
    → has_float (read_data reference outcomes read) ≡ false
read_has_none reference outcomes (Ok message) =
    rw (option_has_none call_data message.call (λ call. refl)) (rw (lines_have_none 0 message.lines outcomes) refl)
read_has_none reference outcomes (Err why) = refl

messages_have_none : (rows : List MessageRowContent) → items_have_float (items_of (map message_data rows)) ≡ false
messages_have_none [] = refl
messages_have_none (row ∷ rows) = rw (read_has_none row.reference row.outcomes row.reading) (messages_have_none rows)

pub interchange_has_no_float : (report : InterchangeContent) → has_float (interchange_data report) ≡ false
interchange_has_no_float report =
    rw (messages_have_none report.messages) (rw (option_has_none _ report.next (λ next. refl)) refl)
