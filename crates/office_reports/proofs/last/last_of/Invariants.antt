use Rattle.std.proofs.Common.{◌≡◌, map, take, flat_map}
use Rattle.office_admission.specs.Setups.{setup_content}
use Rattle.office_reports.specs.Last.{ArrivalContent, account_of, arrival_content, last_of, last_row_content}
use Rattle.office_reports.proofs.last.last_of.Given as goal

abbrev pub invariant-loop-arrival : goal.invariant-loop-arrival
invariant-loop-arrival l =
    map last_row_content l.rows.items ≡ last_of (setup_content l.setup) (map arrival_content (take l.arrival-index l.arrivals))
