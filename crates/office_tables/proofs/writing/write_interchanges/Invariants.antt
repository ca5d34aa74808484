use Rattle.std.proofs.Common.{◌≡◌, Ok, take}
use Rattle.sqlite.specs.Held.{state}
use Rattle.office_tables.specs.{Writes.WritesIfOpen, Taken.taken_contents}
use Rattle.office_history.specs.Cascade.{with_interchanges}
use Rattle.office_tables.proofs.writing.write_interchanges.Given as goal

abbrev pub invariant-loop-item : goal.invariant-loop-item
invariant-loop-item g l =
    (l.tx.conn.ghost_name ≡ l.fn.tx.conn.ghost_name)
    × WritesIfOpen {T = Unit {0}} (with_interchanges l.fn.partner (taken_contents (take l.item-index l.taken))) (state g.S.Store l.fn.tx.conn.now) (state g.S.Store l.tx.conn.now) (Ok tt)
