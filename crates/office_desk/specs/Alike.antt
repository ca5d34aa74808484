-- Set-ups that say the same.
use Rattle.std.specs.Prelude.{◌≡◌, ℕ, List}
use Rattle.office_replies.specs.Events.{Event}
use Rattle.office_admission.specs.Setups.{SetupContent}
use Rattle.office_rows.specs.Rows.{Rows}
use Rattle.office_history.specs.After.{SaysSame, machine_after, AreAfter}
use Rattle.office_parts.specs.InOrder.{AreInOrder}
use Rattle.office_desk.specs.Answers.{answer_to}

-- after those events both answer every text alike, and have the same terminal, the same rows and the same order of arrival
pub record AnswersAlike (one other : SetupContent) (es : List Event) : Type 0 where
  pub answers : (sent : List ℕ) → answer_to one es sent ≡ answer_to other es sent
  pub terminal : (machine_after one es).terminal ≡ (machine_after other es).terminal
  pub rows : (rows : Rows) → AreAfter one es rows → AreAfter other es rows
  pub order : (rows : Rows) → AreInOrder one es rows → AreInOrder other es rows

abbrev pub SameSetupsAnswerAlike : Type 0
SameSetupsAnswerAlike = (one other : SetupContent) → SaysSame one other → (es : List Event) → AnswersAlike one other es
