use Rattle.std.proofs.Common.{◌≡◌, ◌++◌, drop, map}
use Rattle.serde_json.specs.View.{view}
use Rattle.office_reports.proofs.last.push_all.Given as goal

abbrev pub invariant-loop-line : goal.invariant-loop-line
invariant-loop-line l =
    map (λ line. view line.now) l.lines.items ++ map view (drop l.line-index l.others)
    ≡ map (λ line. view line.now) l.initial.lines.items ++ map view l.others
