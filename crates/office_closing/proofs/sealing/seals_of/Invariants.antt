use Rattle.std.proofs.Common.{Ok, take}
use Rattle.sqlite.specs.{Held.state, State.HasCleanDisk}
use Rattle.office_rows.specs.{Rows.Rows, Stored.HasRows}
use Rattle.office_history.specs.After.{AreKeptOnce}
use Rattle.office_tables.specs.DeliveryReading.{OnlyReads}
use Rattle.office_closing.{specs.Seals.HoldsSealing, proofs.SealLemmas.so_far}
use Rattle.office_closing.proofs.sealing.seals_of.Given as goal

abbrev pub invariant-loop-numbers : goal.invariant-loop-numbers
invariant-loop-numbers g l = record {
  reads : OnlyReads {T = Unit {0}} (state g.S.Store l.fn.conn) (state g.S.Store l.conn) (Ok tt);
  sealed : HasCleanDisk (state g.S.Store l.conn) → (rows : Rows) → HasRows rows (state g.S.Store l.fn.conn).now → AreKeptOnce rows.interchanges → HoldsSealing l.sealing (so_far rows (take l.numbers-index l.closing));
}
