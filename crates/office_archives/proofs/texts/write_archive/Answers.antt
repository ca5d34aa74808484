use Rattle.std.proofs.Common.{◌≡◌, ◌+◌, ap, subst, ◌∙◌, rules}
use Rattle.office_loading.specs.Closed.{ClosedContent}
use Rattle.office_rows.specs.Stored.{HasRows}
use Rattle.office_closing.specs.{Register.register_content, Seals.HasSeals}
use Rattle.office_archives.{specs.{Shelves.ShowsSo, Texts.{OpensOn, closed_before}}, proofs.{Journal.added_by, Rising.open_read}}
use Rattle.office_archives.proofs.texts.write_archive.Goals as goal

pub returns-clause-added : goal.returns-clause-added
returns-clause-added g c =
    let next_is : c.in-Some.next ≡ c.args.place + 1 = search rules in
    let told = g.W.Write.contents c.args.writer.now.inner in
    let now = g.W.Write.contents c.write_part.new.writer.inner in
    let names = register_content c.args.register.now in
    let shown = c.has_seals.new.self.conn in
    let reads = c.in_ok-has.ensures.reads in
    let opens : OpensOn g.T.Store g.F.Shelf.is_known g.F.Shelf.holds c.args.shelf.now c.args.place shown = λ known list holds.
    open_read g.T.Store list c.args.place c.passes.new.archive.conn shown reads
    (open_read g.T.Store list c.args.place c.in_ok-archive.archive.conn c.passes.new.archive.conn c.passes.ensures.reads (c.in_ok-archive.ensures.opened known list holds))
    in
    let sealed : ShowsSo g.T.Store shown (HasSeals names c.args.place) = λ clean now_open rows has once.
    (c.in_ok-has.ensures.has clean now_open rows (subst (HasRows rows) ((reads.reads.keeps clean).committed now_open) has) once).0 c.if-not-has.false
    in
    let after_is : _ ≡ closed_before (c.args.place + 1) names = ap (λ (k : ClosedContent). k.last_closed) c.in_ok-after.ensures ∙ ap (λ at. closed_before at names) next_is in
    added_by g.T.Store (OpensOn g.T.Store g.F.Shelf.is_known g.F.Shelf.holds c.args.shelf.now) names c.args.place c.args.rest shown c.write_part.new.self.conn
    _ _ told now (ap (λ (k : ClosedContent). k.last_closed) c.in_ok-before.ensures) after_is opens sealed c.write_part.result c.write_part.ensures.reads c.write_part.ensures.writes
