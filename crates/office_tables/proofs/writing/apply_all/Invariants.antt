use Rattle.std.proofs.Common.{◌≡◌, Ok, map, take}
use Rattle.sqlite.specs.Held.{state}
use Rattle.terminal_core.specs.Rows.{change_content}
use Rattle.office_tables.specs.Writes.{WritesIfOpen}
use Rattle.office_history.specs.Cascade.{with_changes}
use Rattle.office_tables.proofs.writing.apply_all.Given as goal

abbrev pub invariant-loop-change : goal.invariant-loop-change
invariant-loop-change g l =
    (l.tx.conn.ghost_name ≡ l.fn.tx.conn.ghost_name)
    × WritesIfOpen {T = Unit {0}} (with_changes (map change_content (take l.change-index l.changes))) (state g.S.Store l.fn.tx.conn.now) (state g.S.Store l.tx.conn.now) (Ok tt)
