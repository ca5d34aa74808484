use Rattle.std.proofs.Common.{◌≡◌, Ok, List}
use Rattle.sqlite.specs.{State.HasCleanDisk, Held.state}
use Rattle.office_rows.specs.{Rows.Interchange, Opening.with_interchanges}
use Rattle.office_tables.specs.{Reading.Reads, Writes.WritesIfOpen}
use Rattle.office_loading.{specs.Copies.ShowsInterchange, proofs.{StreamLemmas.Stands, StandingLemmas.select_standing}}
use Rattle.office_loading.proofs.copying.copy_interchanges.Given as goal

abbrev pub invariant-each : goal.invariant-each
invariant-each g l =
    let from = state g.S.Store l.fn.old in
    let read = state g.S.Store l.rows.conn.now in
    record {
      same_rows : l.rows.conn.ghost_name ≡ l.initial.rows.conn.ghost_name;
      same : l.tx.conn.ghost_name ≡ l.fn.tx.conn.ghost_name;
      reads : Reads {T = Unit {0}} from read (Ok tt);
      copied : (copied : List Interchange)
          × (HasCleanDisk read → Stands g.S.Store ShowsInterchange select_standing l.fn.old l.rows.conn.now copied)
          × WritesIfOpen {T = Unit {0}} (with_interchanges copied) (state g.T.Store l.fn.tx.conn.now) (state g.T.Store l.tx.conn.now) (Ok tt);
    }
