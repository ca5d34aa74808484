use Rattle.std.proofs.Common.{◌∙◌}
use Rattle.serde_json.proofs.Views.{view-Object}
use Rattle.office_report_data.proofs.MemberLemmas.{visit_put}
use Rattle.office_report_data.proofs.visits.visit_value.Goals as goal

pub returns : goal.returns
returns c = view-Object _ ∙ visit_put _ _ _ _ _ c.new-members.ensures.empty c.in_ok-put_stay.ensures c.in_ok-put_passages.ensures
