use Rattle.std.proofs.Common.{◌≡◌, refl, ap, subst}
use Rattle.sqlite.specs.{Held.state, State.HasCleanDisk}
use Rattle.office_rows.specs.{Rows.Rows, Stored.HasRows}
use Rattle.office_loading.specs.Closed.{ClosedContent}
use Rattle.office_closing.specs.Register.{last_closed, register_content}
use Rattle.office_archives.{specs.Parts.{PartIsWritten, StandInOrder}, proofs.Journal.own_by}
use Rattle.office_archives.proofs.texts.write_journal.Goals as goal

pub returns-in-Some-2-clause-writes : goal.returns-in-Some-2-clause-writes
returns-in-Some-2-clause-writes g c =
    let shown = state g.S.Store c.args.conn.now in
    let read = state g.S.Store c.write_part.new.conn in
    let names = register_content c.args.register.now in
    let between = g.W.Write.contents c.write_archives.new.writer.inner in
    let new = g.W.Write.contents c.write_part.new.writer.inner in
    let closed : _ ≡ last_closed names.segments = ap (λ (k : ClosedContent). k.last_closed) c.in_ok-closed.ensures in
    let part : HasCleanDisk read → (rows : Rows) → HasRows rows shown.now → StandInOrder rows.interchanges (shown.now.trees 2)
    → PartIsWritten (last_closed names.segments) (last_closed names.segments) c.in-Some.rest rows.interchanges between new c.in-Some-2.left =
    λ clean rows has stand. subst (λ last. PartIsWritten last last c.in-Some.rest rows.interchanges between new c.in-Some-2.left) closed (rw c.in-Some-2.is at (c.in_ok-left.ensures.writes clean rows has stand)) in
    record {
      rest = c.in-Some.rest;
      between = between;
      archives = rw c.in-Some.is at c.in_ok-rest.ensures.added;
      own = own_by read shown (last_closed names.segments) c.in-Some.rest c.in-Some-2.left between new (λ clean. c.if-prove.ensures.settled refl (c.in_ok-left.ensures.reads.unchanged clean).0.was_open) part;
    }
