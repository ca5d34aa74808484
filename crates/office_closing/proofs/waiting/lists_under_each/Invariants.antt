use Rattle.std.proofs.Common.{◌≡◌, Ok, map, take}
use Rattle.sqlite.specs.{Held.state, State.HasCleanDisk}
use Rattle.office_rows.specs.{Rows.Rows, Stored.HasRows}
use Rattle.office_admission.specs.Setups.{setup_content}
use Rattle.office_history.specs.After.{AreKeptOnce}
use Rattle.office_tables.specs.DeliveryReading.{OnlyReads}
use Rattle.office_parts.specs.Named.{named_list_content}
use Rattle.office_closing.specs.Waiting.{lists_under_each}
use Rattle.office_closing.proofs.waiting.lists_under_each.Given as goal

abbrev pub invariant-loop-number : goal.invariant-loop-number
invariant-loop-number g l = record {
  reads : OnlyReads {T = Unit {0}} (state g.S.Store l.fn.conn) (state g.S.Store l.conn) (Ok tt);
  named : HasCleanDisk (state g.S.Store l.conn) → (rows : Rows) → HasRows rows (state g.S.Store l.fn.conn).now → AreKeptOnce rows.interchanges →
      map named_list_content l.lists.items ≡ lists_under_each (setup_content l.setup) rows l.partner (take l.number-index l.numbers);
}
