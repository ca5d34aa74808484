use Rattle.std.{specs.{List.flat_map, Prelude.IsPermutation}, proofs.Common.{List, Ok, map, take}}
use Rattle.sqlite.specs.{Held.state, State.HasCleanDisk}
use Rattle.office_rows.specs.{Rows.{Partner, Rows}, Stored.HasRows}
use Rattle.office_admission.specs.Setups.{setup_content}
use Rattle.office_history.specs.After.{AreKeptOnce}
use Rattle.office_tables.specs.DeliveryReading.{OnlyReads}
use Rattle.office_parts.specs.Named.{named_list_content}
use Rattle.office_closing.proofs.WaitingLemmas.{AreById, account_lists}
use Rattle.office_closing.proofs.waiting.lists_waited_for.Given as goal

abbrev pub invariant-loop-index : goal.invariant-loop-index
invariant-loop-index g l = record {
  reads : OnlyReads {T = Unit {0}} (state g.S.Store l.fn.conn) (state g.S.Store l.conn) (Ok tt);
  named : HasCleanDisk (state g.S.Store l.conn) → (rows : Rows) (by_id : List Partner) → HasRows rows (state g.S.Store l.fn.conn).now → AreKeptOnce rows.interchanges → AreById rows l.nexts by_id →
      IsPermutation (flat_map (account_lists (setup_content l.setup) rows) (take l.index by_id)) (map named_list_content l.lists.items);
}
