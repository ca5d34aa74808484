use Rattle.std.proofs.{Common.{◌≡◌, [], false, Ok, IfErr, refl, ◌∙◌, rules, arith}, lemmas.Result.err_from_is_err_and}
use Rattle.sqlite.specs.{Held.state, Given.HasGiven, State.{HasCleanDisk, IsUnchanged, FailsToQuery, Survives, CommitsShowing}}
use Rattle.office_tables.{specs.Faults.IsOfStoreOr, proofs.MadeLemmas.{reads_same, reads_failed, query_survives, ◌then◌}}
use Rattle.office_loading.{specs.Decoded.{ShowsUnsaid, ReadsShown}, proofs.StreamLemmas.{begun_shows, stands_first, stands_next, row_refused, all_read}}
use Rattle.office_loading.proofs.table_reading.read_shown.Goals as goal

pub returns-in_err-rows-clause-reads : goal.returns-in_err-rows-clause-reads
returns-in_err-rows-clause-reads g c =
    let old = state g.S.Store c.args.conn.now in
    let new = state g.S.Store c.query.follows.lender-at-none in
    let held = c.query.follows.holds-at-none in
    let mode : c.args.conn.now.in_transaction ≡ false → c.query.follows.lender-at-none.in_transaction ≡ false = search rules in
    let kept : Survives old new (CommitsShowing c.args.query.now [] old) = search rules in
    let fails : HasCleanDisk new → IfErr c.query.result (FailsToQuery c.args.query.now [] old new) = search rules in
    reads_failed c.args.query.now [] old new c.requires _ _ c.from_residual.ensures.0 (λ clean. rw c.in_err-rows.was at (fails clean)) mode kept

pub each-init : goal.each-init
each-init g c =
    let made = c.in_ok-rows.ensures in
    let old = state g.S.Store c.args.conn.now in
    let new = state g.S.Store c.in_ok-rows.rows.conn.now in
    let begun : HasCleanDisk new → HasGiven g.S.Store c.args.query.now [] c.in_ok-rows.rows.conn.now [] × IsUnchanged old new =
    λ clean. begun_shows g.S.Store c.args.query.now [] c.args.conn.now c.in_ok-rows.rows.conn.now c.requires (made.begun clean) in (
      refl,
      reads_same old new tt (λ clean. (begun clean).1) made.mode (query_survives c.args.query.now [] old new c.requires made.survives),
      λ clean. rw c.new-records.ensures.items (stands_first g.S.Store g.T.Record.says c.args.query.now c.args.conn.now c.in_ok-rows.rows.conn.now (begun clean)),
    )

pub returns-in_default-clause-read : goal.returns-in_default-clause-read
returns-in_default-clause-read g c clean =
    let moved = c.next.follows.holds-at-none in
    let now = c.next.follows.lender-at-none.conn.now in
    let late : HasCleanDisk (state g.S.Store now) = search rules in
    let was = c.each.invariant.2 (omega (arith, moved.survives.clean)) in
    let done = rw (c.in_ok-row.was, c.in_default.is) at (moved.ok late) in
    let read : ReadsShown g.T.Record.says g.T.Record.is_said c.args.query.now (state g.S.Store c.args.conn.now) (state g.S.Store now) (Ok c.each.records) =
    all_read g.S.Store g.T.Record.says c.args.query.now c.args.conn.now c.each.rows.conn.now now c.each.records.items was c.requires _ g.T.Record.is_said c.each.records refl done in
    search rules

pub returns-in_err-record-clause-read : goal.returns-in_err-record-clause-read
returns-in_err-record-clause-read g c clean =
    let moved = c.next.follows.holds-at-none in
    let now = c.next.follows.lender-at-none.conn.now in
    let late : HasCleanDisk (state g.S.Store now) = search rules in
    let was = c.each.invariant.2 (omega (arith, moved.survives.clean)) in
    let one = rw (c.in_ok-row.was, c.in-Some.is) at (moved.ok late) in
    let same = rw c.in_ok-row.was at (moved.same late) in
    let p = err_from_is_err_and c.from_residual-in_err-record.result c.from_residual-in_err-record.ensures.1 in
    let refused : IsOfStoreOr (ShowsUnsaid g.T.Record.is_said c.args.query.now (state g.S.Store c.args.conn.now) (state g.S.Store now)) c.in_err-record.field-0.0 =
    row_refused g.S.Store g.T.Record.says c.args.query.now c.args.conn.now c.each.rows.conn.now now c.each.records.items was g.T.Record.is_said c.in-Some.row.now one same c.in_err-record.field-0.0 c.in_err-record.ensures in
    let read : ReadsShown g.T.Record.says g.T.Record.is_said c.args.query.now (state g.S.Store c.args.conn.now) (state g.S.Store now) c.from_residual-in_err-record.result = rw (p.1, p.2) refused in
    search rules

pub each-preserved : goal.each-preserved
each-preserved g c =
    let moved = c.next.follows.holds-at-none in
    let before = c.each.rows.conn.now in
    let now = c.next.follows.lender-at-none.conn.now in
    let same : HasCleanDisk (state g.S.Store now) → IsUnchanged (state g.S.Store before) (state g.S.Store now) = λ clean. rw c.in_ok-row.was at (moved.same clean) in (
      moved.same_reference ∙ c.each.invariant.0,
      c.each.invariant.1 then reads_same (state g.S.Store before) (state g.S.Store now) tt same moved.mode moved.survives,
      λ clean.
          let was = c.each.invariant.2 (omega (arith, moved.survives.clean)) in
          let one = rw (c.in_ok-row.was, c.in-Some.is) at (moved.ok clean) in
          stands_next g.S.Store g.T.Record.says c.args.query.now c.args.conn.now before now c.each.records.items was c.append.new.records.items c.in-Some.row.now c.in_ok-record.record one (same clean) c.in_ok-record.ensures c.in_ok-append.ensures,
    )
