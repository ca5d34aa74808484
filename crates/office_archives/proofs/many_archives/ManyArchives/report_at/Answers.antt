use Rattle.std.proofs.Common.{◌≡◌, sym, subst}
use Rattle.office_rows.specs.Stored.{HasRows}
use Rattle.office_tables.proofs.WriteLemmas.{was_clean, was_open}
use Rattle.office_closing.specs.{Register.register_content, Seals.HasSeals}
use Rattle.office_archives.{specs.Shelves.ShowsSo, proofs.Rising.{known_still, open_still, sealed_still, shows_still}}
use Rattle.office_archives.proofs.many_archives.ManyArchives.report_at.Goals as goal

-- What it tells is of rows that have all seals.
pub returns-clause-told : goal.returns-clause-told
returns-clause-told g c sealed =
    let self = c.args.self.now in
    let names = register_content self.register in
    let opened = c.in-Some.opened in
    let reads = c.report.ensures.reads in
    let there = rw c.in-Some.is at c.in_ok-opened.ensures.place in
    let taken = rw c.in-Some.is at (c.in_ok-opened.ensures.sealed sealed) in
    record {
      before = _;
      one = _;
      last = c.in_ok-put_back.ensures.last;
      at = there;
      opens = λ known list are. open_still g.S.Store list c.args.place opened.archive.conn c.report.new.self.conn (λ clean. was_clean reads clean) (λ clean now_open. was_open reads clean now_open) (λ clean now_open. (reads.reads.keeps clean).committed now_open) (taken.0 known list are);
      shows = λ clean now_open rows has once.
          let was = subst (HasRows rows) ((reads.reads.keeps clean).committed now_open) has in (
            shows_still g.S.Store (HasSeals names c.args.place) opened.archive.conn c.report.new.self.conn (λ clean. was_clean reads clean) (λ clean now_open. was_open reads clean now_open) (λ clean now_open. (reads.reads.keeps clean).committed now_open) taken.1 clean now_open rows has once,
            c.in_ok-found.ensures.report clean now_open rows was once,
          );
    }

pub returns-clause-same : goal.returns-clause-same
returns-clause-same g c list are =
    let self = c.args.self.now in
    let opened = c.in-Some.opened in
    let reads = c.report.ensures.reads in
    let leaves = c.take_if_all_sealed.ensures.leaves in
    let there = rw c.in-Some.is at c.in_ok-opened.ensures.place in
    let taken = rw c.in-Some.is at (c.in_ok-opened.ensures.sealed are.are_sealed) in
    c.put_back.ensures.same list (leaves.same list are) (leaves.room are.few_open)
    (known_still g.S.Store opened c.report.new.self.conn (λ clean. was_clean reads clean) (λ clean now_open. was_open reads clean now_open) (λ clean now_open. (reads.reads.keeps clean).committed now_open) g.F.Shelf.is_known list c.args.place there (λ known. taken.0 known list are))
    (sealed_still g.S.Store opened c.report.new.self.conn (λ clean. was_clean reads clean) (λ clean now_open. was_open reads clean now_open) (λ clean now_open. (reads.reads.keeps clean).committed now_open) self.register _ leaves.named (λ found. subst (λ at. ShowsSo g.S.Store opened.archive.conn (HasSeals (register_content self.register) at)) (sym there) taken.1))

pub returns-in_err-put_back-clause-same : goal.returns-in_err-put_back-clause-same
returns-in_err-put_back-clause-same g c list are =
    let self = c.args.self.now in
    let opened = c.in-Some.opened in
    let reads = c.report.ensures.reads in
    let leaves = c.take_if_all_sealed.ensures.leaves in
    let there = rw c.in-Some.is at c.in_ok-opened.ensures.place in
    let taken = rw c.in-Some.is at (c.in_ok-opened.ensures.sealed are.are_sealed) in
    c.put_back.ensures.same list (leaves.same list are) (leaves.room are.few_open)
    (known_still g.S.Store opened c.report.new.self.conn (λ clean. was_clean reads clean) (λ clean now_open. was_open reads clean now_open) (λ clean now_open. (reads.reads.keeps clean).committed now_open) g.F.Shelf.is_known list c.args.place there (λ known. taken.0 known list are))
    (sealed_still g.S.Store opened c.report.new.self.conn (λ clean. was_clean reads clean) (λ clean now_open. was_open reads clean now_open) (λ clean now_open. (reads.reads.keeps clean).committed now_open) self.register _ leaves.named (λ found. subst (λ at. ShowsSo g.S.Store opened.archive.conn (HasSeals (register_content self.register) at)) (sym there) taken.1))
