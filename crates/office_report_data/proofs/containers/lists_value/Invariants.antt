use Rattle.std.proofs.Common.{◌≡◌, map, take}
use Rattle.serde_json.specs.View.{view}
use Rattle.terminal_core.specs.Listings.{line_entry}
use Rattle.office_report_data.specs.Containers.{line_data}
use Rattle.office_report_data.proofs.containers.lists_value.Given as goal

abbrev pub invariant-loop-line : goal.invariant-loop-line
invariant-loop-line l = map view l.lists.items ≡ map line_data (map (λ line. line_entry line.now) (take l.line-index l.lines))
