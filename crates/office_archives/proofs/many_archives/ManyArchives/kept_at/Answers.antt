use Rattle.std.proofs.Common.{◌≡◌, sym, subst}
use Rattle.office_rows.specs.Stored.{HasRows}
use Rattle.office_tables.proofs.MadeLemmas.{clean_first}
use Rattle.office_closing.specs.{Register.register_content, Seals.HasSealOf}
use Rattle.office_archives.proofs.Rising.{known_still, open_still, sealed_still, shows_still}
use Rattle.office_archives.proofs.many_archives.ManyArchives.kept_at.Goals as goal

-- What it keeps is of rows that have the seal.
pub returns-clause-told : goal.returns-clause-told
returns-clause-told g c =
    let self = c.args.self.now in
    let names = register_content self.register in
    let opened = c.in-Some.opened in
    let reads = c.kept.ensures.reads in
    let there = rw c.in-Some.is at c.in_ok-opened.ensures.place in
    let taken = rw c.in-Some.is at c.in_ok-opened.ensures.sealed in
    record {
      before = _;
      one = _;
      last = c.in_ok-put_back.ensures.last;
      at = there;
      opens = λ known list are. open_still g.S.Store list c.args.place opened.archive.conn c.kept.new.self.conn (λ clean. clean_first reads clean) (λ clean now_open. (reads.keeps clean).was_open now_open) (λ clean now_open. (reads.keeps clean).committed now_open) (taken.0 known list are);
      shows = λ clean now_open rows has once.
          let was = subst (HasRows rows) ((reads.keeps clean).committed now_open) has in (
            shows_still g.S.Store (HasSealOf names c.args.place c.args.partner c.args.number) opened.archive.conn c.kept.new.self.conn (λ clean. clean_first reads clean) (λ clean now_open. (reads.keeps clean).was_open now_open) (λ clean now_open. (reads.keeps clean).committed now_open) taken.1 clean now_open rows has once,
            c.in_ok-found.ensures.answer clean rows was,
          );
    }

pub returns-clause-same : goal.returns-clause-same
returns-clause-same g c list are =
    let self = c.args.self.now in
    let opened = c.in-Some.opened in
    let reads = c.kept.ensures.reads in
    let leaves = c.take_if_sealed.ensures.leaves in
    let there = rw c.in-Some.is at c.in_ok-opened.ensures.place in
    let taken = rw c.in-Some.is at c.in_ok-opened.ensures.sealed in
    c.put_back.ensures.same list (leaves.same list are) (leaves.room are.few_open)
    (known_still g.S.Store opened c.kept.new.self.conn (λ clean. clean_first reads clean) (λ clean now_open. (reads.keeps clean).was_open now_open) (λ clean now_open. (reads.keeps clean).committed now_open) g.F.Shelf.is_known list c.args.place there (λ known. taken.0 known list are))
    (sealed_still g.S.Store opened c.kept.new.self.conn (λ clean. clean_first reads clean) (λ clean now_open. (reads.keeps clean).was_open now_open) (λ clean now_open. (reads.keeps clean).committed now_open) self.register _ leaves.named (rw c.in-Some.is at (c.in_ok-opened.ensures.said are.are_sealed)))

pub returns-in_err-put_back-clause-same : goal.returns-in_err-put_back-clause-same
returns-in_err-put_back-clause-same g c list are =
    let self = c.args.self.now in
    let opened = c.in-Some.opened in
    let reads = c.kept.ensures.reads in
    let leaves = c.take_if_sealed.ensures.leaves in
    let there = rw c.in-Some.is at c.in_ok-opened.ensures.place in
    let taken = rw c.in-Some.is at c.in_ok-opened.ensures.sealed in
    c.put_back.ensures.same list (leaves.same list are) (leaves.room are.few_open)
    (known_still g.S.Store opened c.kept.new.self.conn (λ clean. clean_first reads clean) (λ clean now_open. (reads.keeps clean).was_open now_open) (λ clean now_open. (reads.keeps clean).committed now_open) g.F.Shelf.is_known list c.args.place there (λ known. taken.0 known list are))
    (sealed_still g.S.Store opened c.kept.new.self.conn (λ clean. clean_first reads clean) (λ clean now_open. (reads.keeps clean).was_open now_open) (λ clean now_open. (reads.keeps clean).committed now_open) self.register _ leaves.named (rw c.in-Some.is at (c.in_ok-opened.ensures.said are.are_sealed)))
