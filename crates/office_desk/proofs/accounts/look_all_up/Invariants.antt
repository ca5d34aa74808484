use Rattle.std.proofs.Common.{◌≡◌, Ok, map, take}
use Rattle.sqlite.specs.{Held.state, State.HasCleanDisk}
use Rattle.office_rows.specs.{Rows.Rows, Stored.HasRows}
use Rattle.office_admission.specs.Setups.{account_contents}
use Rattle.office_tables.specs.DeliveryReading.{OnlyReads}
use Rattle.office_reports.specs.Partners.{partner_content}
use Rattle.office_desk.specs.Reports.{AreLookedUp}
use Rattle.office_desk.proofs.accounts.look_all_up.Given as goal

abbrev pub invariant-loop-account : goal.invariant-loop-account
invariant-loop-account g l =
    let old = state g.S.Store l.fn.conn in
    let now = state g.S.Store l.conn in
    record {
      id : l.id ≡ l.account-index;
      reads : OnlyReads old now (Ok l.id);
      are : (rows : Rows) → HasCleanDisk now → HasRows rows old.now → AreLookedUp rows 1 (account_contents (take l.account-index l.accounts)) (map partner_content l.partners.items);
    }
