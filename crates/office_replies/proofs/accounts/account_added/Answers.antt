use Rattle.std.proofs.Common.{rules}
use Rattle.serde_json.proofs.OnLiterals.{serde_json_on_literals}
use Rattle.office_replies.specs.AccountAnswers.{account_added_text}
use Rattle.office_replies.proofs.accounts.account_added.Goals as goal

pub returns : goal.returns
unfolding serde_json_on_literals account_added_text
returns c = search rules
