use Rattle.std.proofs.Common.{map, drop, ◌+◌, ◌↔◌}
use Rattle.office_rows.specs.Office.{AreAccounts}
use Rattle.office_loading.specs.{Accounts.accounts_in, Checks.AreKeptBeyond, Closed.last_closed, Contents.{number_content, partner_content}}
use Rattle.office_loading.proofs.numbers.are_kept.Given as goal

abbrev pub invariant-loop-partner : goal.invariant-loop-partner
invariant-loop-partner l =
    record {
      accounts : AreAccounts (l.partner-index + 1) (map partner_content (drop l.partner-index l.partners)) (accounts_in (drop l.partner-index l.partners));
      same : AreKeptBeyond (last_closed l.closed) (map partner_content l.partners) (map number_content l.numbers) ↔ AreKeptBeyond (last_closed l.closed) (map partner_content (drop l.partner-index l.partners)) (map number_content l.rest);
    }
