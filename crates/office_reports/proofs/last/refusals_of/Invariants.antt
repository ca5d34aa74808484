use Rattle.std.proofs.Common.{◌≡◌, map, take, flat_map}
use Rattle.serde_json.specs.View.{view}
use Rattle.office_reports.specs.Last.{refusals_in}
use Rattle.office_reports.proofs.last.refusals_of.Given as goal

abbrev pub invariant-loop-message : goal.invariant-loop-message
invariant-loop-message l =
    map (λ name. name.now) l.names.items ≡ flat_map refusals_in (map view (take l.message-index l.messages))
