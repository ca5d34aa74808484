use Rattle.office_reports.specs.Interchanges.{interchange_content}
use Rattle.office_report_data.proofs.{FloatLemmas.told_text, LastFloats.interchange_has_no_float}
use Rattle.office_report_data.proofs.interchanges.interchange_json.Goals as goal

pub returns : goal.returns
returns c =
    told_text _ _ _ c.in_ok-value.ensures (interchange_has_no_float (interchange_content c.args.report.now)) c.to_string.ensures.text
