use Rattle.std.proofs.Common.{◌≡◌, ◌≤◌, length, Ok}
use Rattle.sqlite.specs.{Held.state, State.HasCleanDisk}
use Rattle.office_tables.specs.Reading.{Reads}
use Rattle.office_loading.proofs.TextQuery.{Stands, AreRead}
use Rattle.office_loading.proofs.reading.read_page.Given as goal

abbrev pub invariant-each : goal.invariant-each
invariant-each g l =
    let old = state g.S.Store l.fn.conn in
    let now = state g.S.Store l.rows.conn.now in
    (l.rows.conn.ghost_name ≡ l.initial.rows.conn.ghost_name) × Reads {T = Unit {0}} old now (Ok tt)
    × (l.page.count ≤ length l.page.lines.items)
    × (HasCleanDisk now → Stands g.S.Store l.from l.fn.conn (AreRead l.most l.page.lines.items l.page.count) l.rows.conn.now)
