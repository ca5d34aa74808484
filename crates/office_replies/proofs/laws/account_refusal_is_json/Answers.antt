use Rattle.office_replies.proofs.Ready.{account_refusal-data}
use Rattle.office_replies.proofs.laws.account_refusal_is_json.Goals as goal

pub returns : goal.returns
returns c = account_refusal-data
