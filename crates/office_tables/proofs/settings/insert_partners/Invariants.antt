use Rattle.std.proofs.Common.{◌≡◌, ◌+◌, Ok, take}
use Rattle.sqlite.specs.Held.{state}
use Rattle.office_admission.specs.Setups.{account_contents}
use Rattle.office_rows.specs.Opening.{partners_from, with_partners}
use Rattle.office_tables.specs.Writes.{WritesIfOpen}
use Rattle.office_tables.proofs.settings.insert_partners.Given as goal

abbrev pub invariant-loop-account : goal.invariant-loop-account
invariant-loop-account g l =
    record {
      same : l.tx.conn.ghost_name ≡ l.fn.tx.conn.ghost_name;
      id : l.id ≡ l.account-index + 1;
      writes : WritesIfOpen {T = Unit {0}} (with_partners (partners_from 1 (account_contents (take l.account-index l.accounts)))) (state g.S.Store l.fn.tx.conn.now) (state g.S.Store l.tx.conn.now) (Ok tt);
    }
