use Rattle.std.proofs.Common.{◌≡◌, Ok}
use Rattle.sqlite.specs.{Held.state, State.HasCleanDisk}
use Rattle.office_tables.specs.Reading.{Reads}
use Rattle.office_loading.proofs.StreamLemmas.{Stands}
use Rattle.office_loading.proofs.table_reading.read_shown.Given as goal

abbrev pub invariant-each : goal.invariant-each
invariant-each g l =
    let old = state g.S.Store l.fn.conn in
    let now = state g.S.Store l.rows.conn.now in
    (l.rows.conn.ghost_name ≡ l.initial.rows.conn.ghost_name) × Reads {T = Unit {0}} old now (Ok tt)
    × (HasCleanDisk now → Stands g.S.Store g.T.Record.says l.query l.fn.conn l.rows.conn.now l.records.items)
