use Rattle.std.proofs.Common.{◌≤◌, ◌-◌, Ok, fold}
use Rattle.sqlite.specs.{Held.state, State.HasCleanDisk}
use Rattle.office_rows.specs.{Rows.Rows, Stored.HasRows}
use Rattle.office_history.specs.After.{AreKeptOnce}
use Rattle.office_tables.specs.DeliveryReading.{OnlyReads}
use Rattle.office_closing.{specs.Seals.{HoldsSealing, SealingContent, add_one, kept_under}, proofs.SealLemmas.up_to}
use Rattle.office_closing.proofs.sealing.seal_partner.Given as goal

abbrev pub invariant-loop-number : goal.invariant-loop-number
invariant-loop-number g l = record {
  above : l.numbers.from ≤ l.number;
  within : l.number - l.numbers.from ≤ l.numbers.to - l.numbers.from;
  reads : OnlyReads {T = Unit {0}} (state g.S.Store l.fn.conn) (state g.S.Store l.conn) (Ok tt);
  sealed : HasCleanDisk (state g.S.Store l.conn) → (rows : Rows) → HasRows rows (state g.S.Store l.fn.conn).now → AreKeptOnce rows.interchanges → (sealed : SealingContent) → HoldsSealing l.fn.sealing sealed →
      HoldsSealing l.sealing (fold add_one sealed (kept_under rows (up_to l.numbers l.number)));
}

abbrev pub decreases-loop-number : goal.decreases-loop-number
decreases-loop-number g l = l.numbers.to - l.number
