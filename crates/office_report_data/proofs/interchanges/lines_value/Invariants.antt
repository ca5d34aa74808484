use Rattle.std.proofs.Common.{◌≡◌, ◌++◌, drop, map}
use Rattle.edi_messages.specs.Owned.{line_content}
use Rattle.serde_json.specs.View.{view}
use Rattle.office_reports.specs.Interchanges.{outcome_content}
use Rattle.office_report_data.specs.Interchanges.{lines_data}
use Rattle.office_report_data.proofs.interchanges.lines_value.Given as goal

abbrev pub invariant-loop-line : goal.invariant-loop-line
invariant-loop-line l = record {
  rows : map view l.values.items ++ lines_data l.place (map line_content (drop l.line-index l.lines)) (map outcome_content l.outcomes)
      ≡ lines_data 0 (map line_content l.lines) (map outcome_content l.outcomes);
  counted : l.place ≡ l.line-index;
}
