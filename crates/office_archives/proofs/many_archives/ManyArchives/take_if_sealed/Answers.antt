use Rattle.std.proofs.Common.{◌≡◌, subst, sym}
use Rattle.office_rows.specs.Stored.{HasRows}
use Rattle.office_closing.specs.{Register.register_content, Seals.{HasSealOf, HasSeals}, declared.register.Register.Register}
use Rattle.office_archives.proofs.Rising.{open_read, shows_read}
use Rattle.office_archives.proofs.many_archives.ManyArchives.take_if_sealed.Goals as goal

-- it was only read
pub returns-then-has-clause-sealed : goal.returns-then-has-clause-sealed
returns-then-has-clause-sealed g c =
    let reads = c.in_ok-has.ensures.reads in (
      λ known list are. open_read g.S.Store list c.args.place c.in_ok-opened.opened.archive.conn c.has_seal_of.new.self.conn reads (c.in_ok-opened.ensures.opened known list are),
      λ clean is_open rows has once. subst (λ (r : Register). HasSealOf (register_content r) c.args.place c.args.partner c.args.number rows) c.take_out.ensures.leaves.named ((c.in_ok-has.ensures.has clean is_open rows (subst (HasRows rows) ((reads.reads.keeps clean).committed is_open) has) once).0 c.if-has.true),
    )

pub returns-else-has-clause-sealed : goal.returns-else-has-clause-sealed
returns-else-has-clause-sealed g c =
    let reads = c.in_ok-has.ensures.reads in (
      c.has_seal_of.new.self.conn,
      λ known list are. open_read g.S.Store list c.args.place c.in_ok-opened.opened.archive.conn c.has_seal_of.new.self.conn reads (c.in_ok-opened.ensures.opened known list are),
      λ clean is_open rows has once seal.
          let does = (c.in_ok-has.ensures.has clean is_open rows (subst (HasRows rows) ((reads.reads.keeps clean).committed is_open) has) once).1 (subst (λ (r : Register). HasSealOf (register_content r) c.args.place c.args.partner c.args.number rows) (sym c.take_out.ensures.leaves.named) seal) in
          let lacks = c.if-has.false in
          absurd cc,
    )

pub returns-then-has-clause-said : goal.returns-then-has-clause-said
returns-then-has-clause-said g c are found =
    let opened = c.in_ok-opened.opened in
    shows_read g.S.Store (HasSeals (register_content c.args.self.now.register) opened.place) opened.archive.conn c.has_seal_of.new.self.conn c.in_ok-has.ensures.reads (c.in_ok-opened.ensures.said are found)
