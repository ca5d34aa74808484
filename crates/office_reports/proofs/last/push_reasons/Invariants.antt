use Rattle.std.proofs.Common.{◌≡◌, ◌++◌, drop, map}
use Rattle.serde_json.specs.View.{view}
use Rattle.office_reports.specs.Last.{reasons_of}
use Rattle.office_reports.proofs.last.push_reasons.Given as goal

abbrev pub invariant-loop-line : goal.invariant-loop-line
invariant-loop-line l =
    map (λ name. name.now) l.names.items ++ reasons_of (map view (drop l.line-index l.lines))
    ≡ map (λ name. name.now) l.initial.names.items ++ reasons_of (map view l.lines)
