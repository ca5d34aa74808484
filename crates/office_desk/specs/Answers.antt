-- What a delivery is answered.
use Rattle.std.specs.{Prelude.{◌≡◌, ℕ, List, [], Result, Ok, Err, codes}, Option.unwrap_or}
use Rattle.edi_syntax.specs.{Interchange.{interchange_of, segments_in}, Envelope.header_of}
use Rattle.partner_core.specs.{Answers.AnswerModel, Numbered.with_number}
use Rattle.office_replies.specs.{Events.Event, Bodies.{answer_text, waiting_text, clash_text}, Contents.{AnswerContent, answer_with, content_of}}
use Rattle.office_replies.specs.{declared.deliver.Fault.Fault, declared.deliver.Response.Response}
use Rattle.office_admission.specs.{Parties.Parties, Setups.{SetupContent, parties_in}, Admission.admission, Accounts.content_after}
use Rattle.office_admission.specs.Refusals.{refusal_of, MayBeNotNow}
use Rattle.office_history.specs.Laws.{answer_model_of}
use Rattle.partner_core.specs.Answers as told
use Rattle.office_replies.specs.Kinds as kinds
use Rattle.office_replies.specs.declared.deliver.Response.TheVariants as response
use Rattle.office_replies.specs.declared.deliver.Worst.TheVariants as worst

-- the answer to an interchange of the partner with a code that is taken, with its reply
abbrev pub taken_answer : List ℕ → ℕ → List ℕ → AnswerContent
taken_answer code number reply = answer_with kinds.Taken 200 (answer_text (codes "taken") number code reply) worst.Fine

-- the answer to one that was taken before
abbrev pub repeat_answer : List ℕ → ℕ → List ℕ → AnswerContent
repeat_answer code number reply =
    answer_with kinds.Repeat 200 (answer_text (codes "repeat") number code reply) worst.Fine

-- what the runs tell of a number of the partner with a code
abbrev pub answer_by_model : List ℕ → ℕ → AnswerModel → AnswerContent
answer_by_model code number (told.Taken reply) = taken_answer code number (unwrap_or reply [])
answer_by_model code number (told.Repeat reply) = repeat_answer code number (unwrap_or reply [])
answer_by_model code number (told.Waiting next) = answer_with kinds.Waiting 202 (waiting_text next number code) worst.Fine
answer_by_model code number told.Clash = answer_with kinds.Clash 409 (clash_text number code) worst.Refused

abbrev pub code_of : Parties → ℕ → List ℕ
code_of parties partner = unwrap_or (with_number parties.partners partner) []

abbrev pub answer_at : SetupContent → List Event → List ℕ → Result (ℕ × ℕ) Fault → AnswerContent
answer_at content es sent (Err fault) =
    refusal_of (parties_in (content_after content es)) (header_of (segments_in (interchange_of sent))) fault
answer_at content es sent (Ok place) =
    answer_by_model (code_of (parties_in (content_after content es)) place.0) place.1
    (answer_model_of content es place.0 place.1 sent)

-- the answer to a text that is delivered after those events, by the accounts so far
abbrev pub answer_to : SetupContent → List Event → List ℕ → AnswerContent
answer_to content es sent =
    answer_at content es sent (admission (parties_in (content_after content es)) (interchange_of sent))

-- from that opening set-up, after those events, the response is the answer to the next, or NotNow if that may be
abbrev pub AnswersNext : SetupContent → List Event → List ℕ → Response → Type 0
AnswersNext content es sent response.NotNow = MayBeNotNow (parties_in (content_after content es)) (interchange_of sent)
AnswersNext content es sent given = content_of given ≡ answer_to content es sent
