use Rattle.std.proofs.Common.{◌≡◌, map, take}
use Rattle.serde_json.specs.View.{view}
use Rattle.office_reports.specs.Interchanges.{outcome_content, outcome_of}
use Rattle.office_reports.proofs.interchanges.outcomes_of.Given as goal

abbrev pub invariant-loop-line : goal.invariant-loop-line
invariant-loop-line l = map outcome_content l.outcomes.items ≡ map outcome_of (map view (take l.line-index l.lines))
