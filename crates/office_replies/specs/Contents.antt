-- What an answer says: its kind, its status of HTTP, its body, and how bad it is.
use Rattle.std.specs.Prelude.{◌≡◌, ℕ, List}
use Rattle.office_replies.specs.{Kinds.{AnswerKind, kind_of}, Responses.{status_of, body_of, worst_of}, declared.deliver.Response.Response}
use Rattle.office_replies.specs.declared.deliver.Worst.{Worst}
use Rattle.office_replies.specs.declared.deliver.Response.TheVariants as response

pub record AnswerContent : Type 0 where
  pub kind : AnswerKind
  pub status : ℕ
  pub body : List ℕ
  pub how_bad : Worst

abbrev pub answer_with : AnswerKind → ℕ → List ℕ → Worst → AnswerContent
answer_with kind status body how_bad = record { kind = kind; status = status; body = body; how_bad = how_bad }

-- the response is this answer
abbrev pub content_of : Response → AnswerContent
content_of response = answer_with (kind_of response) (status_of response) (body_of response) (worst_of response)

-- it is, or it is NotNow
abbrev pub GivesOrNotNow : AnswerContent → Response → Type 0
GivesOrNotNow content response.NotNow = Unit {0}
GivesOrNotNow content given = content_of given ≡ content
