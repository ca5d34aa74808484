use Rattle.office_replies.proofs.Ready.{not_now_body-data}
use Rattle.office_replies.proofs.laws.not_now_is_json.Goals as goal

pub returns : goal.returns
returns c = not_now_body-data
