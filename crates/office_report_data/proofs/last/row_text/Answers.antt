use Rattle.office_reports.specs.Last.{last_row_content}
use Rattle.office_report_data.proofs.{FloatLemmas.told_text, LastFloats.last_row_has_no_float}
use Rattle.office_report_data.proofs.last.row_text.Goals as goal

pub returns : goal.returns
returns c =
    told_text _ _ _ c.in_ok-value.ensures (last_row_has_no_float (last_row_content c.args.row.now)) c.to_string.ensures.text
