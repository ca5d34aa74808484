use Rattle.std.proofs.Common.{◌∙◌}
use Rattle.serde_json.proofs.Views.{view-Object}
use Rattle.office_report_data.proofs.MemberLemmas.{block_put}
use Rattle.office_report_data.proofs.blocks.block_value.Goals as goal

pub returns : goal.returns
returns c = view-Object _ ∙ block_put c.args.row _ _ _ c.new-members.ensures.empty c.in_ok-put_size.ensures c.in_ok-put_use.ensures
