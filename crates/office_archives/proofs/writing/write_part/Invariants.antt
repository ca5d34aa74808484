use Rattle.std.proofs.Common.{◌≡◌, List, Ok}
use Rattle.sqlite.specs.{Order.Row, Held.state, State.HasCleanDisk}
use Rattle.office_loading.{specs.Closed.last_closed, proofs.StreamLemmas.Stands}
use Rattle.office_tables.specs.Reading.{Reads}
use Rattle.office_archives.proofs.PartQuery.{select_part, IsRow, AreDoneSoFar}
use Rattle.office_archives.proofs.writing.write_part.Given as goal

abbrev pub invariant-each : goal.invariant-each
invariant-each g l =
    let old = state g.S.Store l.fn.conn in
    let now = state g.S.Store l.rows.conn.now in
    record {
      same_rows : l.rows.conn.ghost_name ≡ l.initial.rows.conn.ghost_name;
      reads : Reads {T = Unit {0}} old now (Ok tt);
      works : l.writer.failed ≡ l.fn.writer.failed;
      read : (read : List Row)
          × (HasCleanDisk now → Stands g.S.Store IsRow select_part l.fn.conn l.rows.conn.now read)
          × AreDoneSoFar (last_closed l.before) (last_closed l.after) l.fn.rest read (g.W.Write.contents l.fn.writer.inner) (g.W.Write.contents l.writer.inner) l.passing;
    }
