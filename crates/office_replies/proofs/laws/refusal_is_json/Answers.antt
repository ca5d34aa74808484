use Rattle.office_replies.proofs.Ready.{refusal_text-data, refused_body-data}
use Rattle.office_replies.proofs.laws.refusal_is_json.Goals as goal

pub returns-clause-text : goal.returns-clause-text
returns-clause-text c = refusal_text-data

pub returns-clause-body : goal.returns-clause-body
returns-clause-body c = refused_body-data
