-- An account that is asked for, and the line that answers it.
use Rattle.std.specs.{Prelude.{◌≡◌, ℕ, List, Option}, Io.KnownBytes.Appends}
use Rattle.office_replies.specs.{AccountAnswers.{account_body, account_worst}, declared.accounts.AccountAnswer.AccountAnswer, declared.deliver.Worst.Worst}
use Rattle.office_replies.specs.{Fronts.AppendsFront, StreamLines.line}

-- it was answered, and its line written
pub record AnsweredAccount (Done : AccountAnswer → Type 0) (worst : Worst) (written written' : Option (List ℕ))
    : Type 0 where
  pub answer : AccountAnswer
  pub done : Done answer
  pub is_worst : worst ≡ account_worst answer
  pub writes : Appends written written' (line (account_body answer))

-- it was answered, and a front of its line written
pub record AccountCutShort (Done : AccountAnswer → Type 0) (written written' : Option (List ℕ)) : Type 0 where
  pub answer : AccountAnswer
  pub done : Done answer
  pub writes : AppendsFront written written' (line (account_body answer))
