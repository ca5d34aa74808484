use Rattle.std.proofs.Common.{◌≡◌, map, take}
use Rattle.serde_json.specs.View.{view}
use Rattle.office_reports.specs.Last.{lines_of}
use Rattle.office_reports.proofs.last.lines_of.Given as goal

abbrev pub invariant-loop-message : goal.invariant-loop-message
invariant-loop-message l = map (λ line. view line.now) l.lines.items ≡ lines_of (map view (take l.message-index l.messages))
