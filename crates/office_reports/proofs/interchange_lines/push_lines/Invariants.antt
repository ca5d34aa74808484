use Rattle.std.proofs.Common.{◌≡◌, ◌++◌, drop, map, string_bytes}
use Rattle.edi_messages.specs.Owned.{line_content}
use Rattle.office_reports.specs.{InterchangeLines.lines_from, Interchanges.outcome_content}
use Rattle.office_reports.proofs.interchange_lines.push_lines.Given as goal

abbrev pub invariant-loop-line : goal.invariant-loop-line
invariant-loop-line l = record {
  rows : string_bytes l.text ++ lines_from l.place (map line_content (drop l.line-index l.lines)) (map outcome_content l.outcomes)
      ≡ string_bytes l.initial.text ++ lines_from 0 (map line_content l.lines) (map outcome_content l.outcomes);
  counted : l.place ≡ l.line-index;
}
