use Rattle.std.proofs.Common.{not, ap, ◌∙◌}
use Rattle.sqlite.specs.Held.{state}
use Rattle.office_loading.specs.Closed.{last_closed}
use Rattle.office_rows.{specs.{Rows.Rows, Stored.HasRows}, proofs.Creating.if_ok}
use Rattle.office_tables.specs.Faults.{IsOfStore}
use Rattle.office_archives.{specs.Parts.{StandInOrder, WritesPart}, proofs.Looking.{err_committed, ok_committed}}
use Rattle.office_archives.proofs.looked.Looked.write_part.Goals as goal

pub returns-clause-writes : goal.returns-clause-writes
returns-clause-writes g c clean =
    let told = g.W.Write.contents c.args.writer.now.inner in
    let now = g.W.Write.contents c.write_part.new.writer.inner in
    if_ok c.write_part.result (λ left writes rows are. writes rows are.has are.in_order)
    (ok_committed (state g.S.Store c.args.self.now.conn) (state g.S.Store c.write_part.new.conn) (λ is_open. c.is_autocommit-is_idle.ensures.settled (c.is_autocommit-is_idle.ensures.value ∙ ap not c.args.self.now.idle) is_open)
    (λ db left. (rows : Rows) → HasRows rows db → StandInOrder rows.interchanges (db.trees 2) → WritesPart (last_closed c.args.before.now) (last_closed c.args.after.now) c.args.rest rows.interchanges told now left)
    c.write_part.result (c.write_part.ensures.reads.unchanged clean) (c.write_part.ensures.writes clean))

pub returns-clause-fault : goal.returns-clause-fault
returns-clause-fault g c clean is_open =
    err_committed (state g.S.Store c.args.self.now.conn) (λ is_open. c.is_autocommit-is_idle.ensures.settled (c.is_autocommit-is_idle.ensures.value ∙ ap not c.args.self.now.idle) is_open)
    (λ db fault. (rows : Rows) → HasRows rows db → IsOfStore fault) c.write_part.result ((c.write_part.ensures.reads.keeps clean).was_open is_open) (c.write_part.ensures.fault clean)
