use Rattle.std.proofs.Common.{rules}
use Rattle.serde_json.proofs.OnLiterals.{serde_json_on_literals}
use Rattle.office_replies.specs.Bodies.{waiting_text}
use Rattle.office_replies.proofs.body.waiting_body.Goals as goal

pub returns : goal.returns
unfolding serde_json_on_literals waiting_text
returns c = search rules
