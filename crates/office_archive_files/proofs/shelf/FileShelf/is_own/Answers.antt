use Rattle.std.proofs.Common.{sym, ap, subst, ◌∙◌}
use Rattle.sqlite.specs.{Files.over_files, WalFiles.image_at}
use Rattle.office_loading.specs.{Closed.closed_content, Tables.LoadsOwn}
use Rattle.office_rows.specs.Stored.{HasRows}
use Rattle.office_admission.specs.Setups.{setup_content}
use Rattle.office_tables.proofs.{MadeLemmas.clean_first, WriteLemmas.{one_read, only_on}}
use Rattle.office_archive_files.{specs.Archives.Reaches, proofs.ShelfLemmas.shown_after}
use Rattle.office_archive_files.proofs.shelf.FileShelf.is_own.Goals as goal

-- It shows what was read of it.
pub returns-clause-passes : goal.returns-clause-passes
returns-clause-passes g c = λ shows is_own.
    let named = c.in_ok-named.named in
    let content = setup_content c.in_ok-setup.setup in
    let beside = c.in_ok-setup.beside in
    let closed = closed_content named.closed in
    record {
      shows = shown_after over_files (image_at g.B.Start) c.args.archive.now.conn c.load.new.self.conn (λ clean. clean_first c.load.ensures.reads clean) (λ clean. (c.in_ok-setup.ensures.reads.unchanged clean).0.committed_is) shows;
      read = record {
        closed = closed;
        segments = named.segments.items;
        visits = named.visits;
        content = content;
        terminal = beside.terminal;
        nexts = beside.nexts.items;
        named = c.in_ok-named.ensures;
        office = c.is_same_office.ensures.0 c.if-not-is_same_office.false;
        reaches = subst (λ segments. Reaches segments named.visits beside.nexts.items beside.terminal) c.deref.ensures.value (c.reaches.ensures.0 is_own);
      };
      loads = λ clean schema.
          let same = (c.in_ok-setup.ensures.reads.unchanged clean).0.committed_is in
          subst (λ db. LoadsOwn closed db content beside.terminal) (sym same) (c.in_ok-setup.ensures.loaded clean (sym (ap (λ db. db.schema) same) ∙ schema));
      are_nexts = λ clean rows has. c.in_ok-setup.ensures.nexts clean rows (subst (HasRows rows) (c.in_ok-setup.ensures.reads.unchanged clean).0.committed_is has);
    }

pub returns-clause-reads : goal.returns-clause-reads
returns-clause-reads g c = only_on _ (one_read c.in_ok-setup.ensures.reads)

pub returns-then-not-is_same_office-clause-reads : goal.returns-then-not-is_same_office-clause-reads
returns-then-not-is_same_office-clause-reads g c = only_on _ (one_read c.in_ok-setup.ensures.reads)
