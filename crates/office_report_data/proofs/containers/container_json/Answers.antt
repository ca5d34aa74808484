use Rattle.office_reports.specs.Containers.{container_content}
use Rattle.office_report_data.proofs.FloatLemmas.{container_has_no_float, told_text}
use Rattle.office_report_data.proofs.containers.container_json.Goals as goal

pub returns : goal.returns
returns c =
    told_text _ _ _ c.in_ok-value.ensures (container_has_no_float (container_content c.args.report.now)) c.to_string.ensures.text
