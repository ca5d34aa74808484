-- What a delivery is answered under a number that is closed.
use Rattle.std.specs.Prelude.{◌≡◌, ℕ, ◌≤◌, List}
use Rattle.edi_syntax.specs.Interchange.{interchange_of}
use Rattle.office_replies.specs.{Contents.content_of, Events.Event, declared.deliver.Response.Response}
use Rattle.office_rows.specs.Rows.{Rows}
use Rattle.office_admission.specs.Setups.{SetupContent}
use Rattle.office_history.specs.Laws.{IsFor, answer_model_of}
use Rattle.office_desk.specs.Answers.{answer_by_model}
use Rattle.office_parts.specs.{Archives.{Archive, Hold}, Parts.{Archived, ArePartsAfter}}

-- The response to the partner with a code is what is to be reported of it at its place: after whatever events, if these
-- archives hold what was put away of the rows after them.
abbrev pub AnswersClosed : List Archive → (partner : ℕ) → (code : List ℕ) → (number : ℕ) → List ℕ → Response → Type 0
AnswersClosed archives partner code number text response =
    (content : SetupContent) (es : List Event) (archived : Archived) (own whole : Rows) (sent : List ℕ) →
    ArePartsAfter content es archived own whole → Hold archives archived → text ≡ interchange_of sent →
    IsFor content es sent partner number → number ≤ archived.last_closed partner
    → content_of response ≡ answer_by_model code number (answer_model_of content es partner number sent)
