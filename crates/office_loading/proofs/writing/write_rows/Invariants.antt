use Rattle.std.proofs.Common.{◌≡◌, Ok}
use Rattle.sqlite.specs.{Held.state, State.HasCleanDisk}
use Rattle.office_tables.specs.Reading.{Reads}
use Rattle.office_loading.proofs.{TextQuery.Stands, TakenLemmas.AreSoFar}
use Rattle.office_loading.proofs.writing.write_rows.Given as goal

abbrev pub invariant-each : goal.invariant-each
invariant-each g l =
    let old = state g.S.Store l.fn.conn in
    let now = state g.S.Store l.rows.conn.now in
    (l.rows.conn.ghost_name ≡ l.initial.rows.conn.ghost_name) × Reads {T = Unit {0}} old now (Ok tt)
    × (l.writer.failed ≡ l.fn.writer.failed)
    × (HasCleanDisk now → Stands g.S.Store l.from l.fn.conn (AreSoFar (g.W.Write.contents l.fn.writer.inner) (g.W.Write.contents l.writer.inner) l.has_some) l.rows.conn.now)
