use Rattle.std.proofs.Common.{sym, subst}
use Rattle.sqlite.specs.Held.{state}
use Rattle.office_rows.{specs.Stored.HasRows, proofs.Creating.if_ok}
use Rattle.office_loading.specs.Closed.{closed_content}
use Rattle.office_admission.specs.Setups.{setup_content}
use Rattle.office_tables.proofs.WriteLemmas.{one_read, only_then, was_clean}
use Rattle.office_archives.proofs.former_store.report_by.Goals as goal

-- It is reported by what was loaded.
pub returns-clause-report : goal.returns-clause-report
returns-clause-report g c = λ clean.
    let old = state g.S.Store c.args.conn.now in
    let before = was_clean c.tell.ensures.reads clean in
    let same = (c.in_ok-setup.ensures.reads.unchanged before).0.now_is in
    if_ok c.tell.result (λ found told rows has once.
    let tells = told rows (subst (HasRows rows) (sym same) has) once in (
      tells.0,
      record {
        db = old.now;
        has = has;
        closed = closed_content c.args.closed.now;
        content = setup_content c.in_ok-setup.setup;
        terminal = c.in_ok-setup.terminal;
        loads = c.in_ok-setup.ensures.loaded before has.schema;
        tells = tells.1;
      },
      tells.2,
    ))
    (c.tell.ensures.told clean)

pub returns-clause-reads : goal.returns-clause-reads
returns-clause-reads g c = only_then (one_read c.in_ok-setup.ensures.reads) c.tell.ensures.reads
