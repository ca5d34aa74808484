use Rattle.std.proofs.Common.{◌≡◌, ◌++◌, drop, map}
use Rattle.office_reports.specs.Partners.{partner_content, row_content, row_of}
use Rattle.office_reports.proofs.partners.rows_of.Given as goal

abbrev pub invariant-loop-partner : goal.invariant-loop-partner
invariant-loop-partner l =
    map row_content l.rows.items ++ map row_of (map partner_content (drop l.partner-index l.partners))
    ≡ map row_of (map partner_content l.partners)
