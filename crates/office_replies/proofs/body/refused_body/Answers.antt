use Rattle.std.proofs.Common.{rules}
use Rattle.serde_json.proofs.OnLiterals.{serde_json_on_literals}
use Rattle.office_replies.specs.Bodies.{refused_text}
use Rattle.office_replies.proofs.body.refused_body.Goals as goal

pub returns : goal.returns
unfolding serde_json_on_literals refused_text
returns c = search rules
