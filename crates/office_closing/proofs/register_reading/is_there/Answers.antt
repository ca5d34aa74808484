use Rattle.std.proofs.Common.{◌≡◌, [], true, false, ap, subst, ◌∙◌}
use Rattle.sqlite.specs.{Held.state, Listing.understood, State.IsNotRun, Steps.Outlines, declared.error.Error.TheVariants.SqlInputError}
use Rattle.sqlite_resolve.specs.declared.error.CompileError.TheVariants.{NoSuchTable}
use Rattle.office_tables.proofs.MadeLemmas.{reads_same}
use Rattle.office_closing.proofs.WriteTexts.{found_in, missing_in, missing_keeps, not_run_keeps}
use Rattle.office_closing.proofs.register_reading.is_there.Goals.{in-Ok, in-Err-SqlInputError-NoSuchTable, in-Err+in-Err}
use Rattle.office_closing.proofs.register_reading.is_there.Goals as goal

pub returns-clause-layout : goal.returns-clause-layout
returns-clause-layout g c clean layout is =
    let old = state g.S.Store c.args.conn.now in
    let new = state g.S.Store c.prepare.new.self in
    elim c.match-prepare.branch [
      | in-Ok w ↦
          rw w.result-is
          (found_in c.args.table layout old.now.schema is w.in-Ok.field-0 (subst (λ query. Outlines (understood old.now.schema query) w.in-Ok.field-0) c.asking.ensures (w.in-Ok.ensures.shape clean)))
      | in-Err-SqlInputError-NoSuchTable w ↦
          let missing = w.in-Err-SqlInputError-NoSuchTable in
          let not_run = subst (IsNotRun old new c.asking.result.now []) (missing.field-0-is ∙ ap SqlInputError missing.field-0-0-is) (missing.ensures.err clean []) in
          rw w.result-is (missing_in c.args.table layout old new is [] (subst (λ query. IsNotRun old new query [] (SqlInputError NoSuchTable)) c.asking.ensures not_run))
      | in-Err+in-Err w ↦ rw w.result-is tt
    ]

pub returns-clause-reads : goal.returns-clause-reads
returns-clause-reads g c =
    let old = state g.S.Store c.args.conn.now in
    let new = state g.S.Store c.prepare.new.self in
    let query = c.asking.result.now in
    elim c.match-prepare.branch [
      | in-Ok w ↦ rw w.result-is (reads_same old new true (λ clean. (w.in-Ok.ensures.ok clean).1) c.prepare.ensures.mode c.prepare.ensures.survives)
      | in-Err-SqlInputError-NoSuchTable w ↦
          let missing = w.in-Err-SqlInputError-NoSuchTable in
          rw w.result-is (reads_same old new false
          (λ clean. missing_keeps query [] old new (subst (IsNotRun old new query []) (missing.field-0-is ∙ ap SqlInputError missing.field-0-0-is) (missing.ensures.err clean [])))
          c.prepare.ensures.mode c.prepare.ensures.survives)
      | in-Err+in-Err w ↦ rw w.result-is (record {
        unchanged = λ clean. tt;
        keeps = λ clean. not_run_keeps query [] old new w.in-Err.error (w.in-Err.ensures.err clean []);
        mode = c.prepare.ensures.mode;
        survives = c.prepare.ensures.survives;
      })
    ]
