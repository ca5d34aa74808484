use Rattle.std.proofs.Common.{◌≡◌, ◌++◌, drop, map}
use Rattle.edi_messages.specs.Owned.{line_content}
use Rattle.office_admission.specs.Taking.{lines_taken, lines_changes}
use Rattle.terminal_core.specs.Rows.{change_content}
use Rattle.office_admission.proofs.taking.take_lines.Given as goal

abbrev pub invariant-loop-line : goal.invariant-loop-line
invariant-loop-line l = record {
  state : (lines_taken l.terminal l.source (map line_content (drop l.line-index l.lines))).0 ≡ (lines_taken l.fn.terminal l.source (map line_content l.lines)).0;
  reports : l.reports.items ++ (lines_taken l.terminal l.source (map line_content (drop l.line-index l.lines))).1 ≡ (lines_taken l.fn.terminal l.source (map line_content l.lines)).1;
  changes : map change_content l.changes.items ++ lines_changes l.terminal l.source (map line_content (drop l.line-index l.lines)) ≡ map change_content l.fn.changes.items ++ lines_changes l.fn.terminal l.source (map line_content l.lines);
}
