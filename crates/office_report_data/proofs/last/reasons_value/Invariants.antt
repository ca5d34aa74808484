use Rattle.std.proofs.Common.{◌≡◌, map, take}
use Rattle.serde_json.specs.{Data.string, View.view}
use Rattle.office_report_data.proofs.last.reasons_value.Given as goal

abbrev pub invariant-loop-reason : goal.invariant-loop-reason
invariant-loop-reason l = map view l.values.items ≡ map string (map (λ reason. reason.now) (take l.reason-index l.reasons))
