use Rattle.std.proofs.Common.{◌≡◌, subst, sym}
use Rattle.office_rows.specs.Stored.{HasRows}
use Rattle.office_closing.specs.{Register.register_content, Seals.{HasSealOf, HasSeals}, declared.register.Register.Register}
use Rattle.office_archives.specs.Shelves.{ShowsSo}
use Rattle.office_archives.proofs.Rising.{open_read}
use Rattle.office_archives.proofs.many_archives.ManyArchives.take_if_all_sealed.Goals as goal

-- it was only read
pub returns-then-has-clause-sealed : goal.returns-then-has-clause-sealed
returns-then-has-clause-sealed g c are =
    let reads = c.in_ok-has.ensures.reads in (
      λ known list are. open_read g.S.Store list c.args.place c.passes.new.archive.conn c.has_seals.new.self.conn reads
          (open_read g.S.Store list c.args.place c.in_ok-opened.opened.archive.conn c.passes.new.archive.conn c.passes.ensures.reads (c.in_ok-opened.ensures.opened known list are)),
      λ clean is_open rows has once. subst (λ (r : Register). HasSeals (register_content r) c.args.place rows) c.take_out.ensures.leaves.named ((c.in_ok-has.ensures.has clean is_open rows (subst (HasRows rows) ((reads.reads.keeps clean).committed is_open) has) once).0 c.if-has.true),
    )

pub returns-else-has-clause-sealed : goal.returns-else-has-clause-sealed
returns-else-has-clause-sealed g c are =
    let reads = c.in_ok-has.ensures.reads in (
      c.has_seals.new.self.conn,
      λ known list are. open_read g.S.Store list c.args.place c.passes.new.archive.conn c.has_seals.new.self.conn reads
          (open_read g.S.Store list c.args.place c.in_ok-opened.opened.archive.conn c.passes.new.archive.conn c.passes.ensures.reads (c.in_ok-opened.ensures.opened known list are)),
      λ clean is_open rows has once seals.
          let does = (c.in_ok-has.ensures.has clean is_open rows (subst (HasRows rows) ((reads.reads.keeps clean).committed is_open) has) once).1 (subst (λ (r : Register). HasSeals (register_content r) c.args.place rows) (sym c.take_out.ensures.leaves.named) seals) in
          let lacks = c.if-has.false in
          absurd cc,
    )
