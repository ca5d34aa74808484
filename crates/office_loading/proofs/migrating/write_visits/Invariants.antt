use Rattle.std.proofs.Common.{◌≡◌, Ok, take, map}
use Rattle.sqlite.specs.Held.{state}
use Rattle.terminal_core.specs.Rows.{visit_content}
use Rattle.office_rows.specs.Opening.{with_visits}
use Rattle.office_tables.specs.Writes.{WritesIfOpen}
use Rattle.office_loading.proofs.migrating.write_visits.Given as goal

abbrev pub invariant-loop-row : goal.invariant-loop-row
invariant-loop-row g l =
    (l.tx.conn.ghost_name ≡ l.fn.tx.conn.ghost_name)
    × WritesIfOpen {T = Unit {0}} (with_visits (map visit_content (take l.row-index l.rows))) (state g.S.Store l.fn.tx.conn.now) (state g.S.Store l.tx.conn.now) (Ok tt)
