use Rattle.std.proofs.Common.{◌∙◌}
use Rattle.serde_json.proofs.Views.{view-Object}
use Rattle.office_report_data.proofs.LineLemmas.{line_put}
use Rattle.office_report_data.proofs.interchanges.line_value.Goals as goal

pub returns : goal.returns
returns c =
    view-Object _
    ∙ line_put _ _ _ _ _ _ _ c.new-members.ensures.empty c.in_ok-put_place.ensures c.in_ok-put_container.ensures c.in_ok-put_stated.ensures
