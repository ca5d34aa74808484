use Rattle.std.proofs.Common.{◌≡◌, ◌≤◌, ◌*◌, ◌^◌, map, take, sum_by}
use Rattle.office_reports.specs.Partners.{partner_content, waiting_count}
use Rattle.office_reports.proofs.partners.waiting_count.Given as goal

abbrev pub invariant-loop-partner : goal.invariant-loop-partner
invariant-loop-partner l =
    (l.count ≡ sum_by waiting_count (map partner_content (take l.partner-index l.partners))) × (l.count ≤ l.partner-index * 2 ^ 64)
