use Rattle.std.proofs.{Common.{◌≡◌, [], ◌∷◌, true, false, Ok, IfErr, refl, ◌∙◌, rules, arith}, lemmas.Result.err_from_is_err_and}
use Rattle.sqlite.specs.{Values.bound, Order.Row, Held.state, Given.HasGiven, State.{HasCleanDisk, IsUnchanged, FailsToQuery, Survives, CommitsShowing}}
use Rattle.office_rows.specs.{Values.number_value, Rows.Rows, Stored.HasRows}
use Rattle.office_tables.{specs.{Faults.IsOfStore, Reading.Reads}, proofs.MadeLemmas.{reads_same, reads_failed, query_survives, ◌then◌}}
use Rattle.office_loading.{specs.{Texts.IsText, declared.writing.Written.Written, declared.writing.Written.TheVariants.Failed}, proofs.StreamLemmas.begun_shows}
use Rattle.office_loading.proofs.TextQuery.{select_texts, texts_shows, stands_first, stands_next, row_shows_text, texts_are_all}
use Rattle.office_loading.proofs.TakenLemmas.{AreSoFar, none_so_far, more_so_far, all_so_far, row_written, of_store_only}
use Rattle.office_loading.proofs.writing.write_rows.Goals as goal

pub returns-in_err-rows-clause-reads : goal.returns-in_err-rows-clause-reads
returns-in_err-rows-clause-reads g c =
    let old = state g.S.Store c.args.conn.now in
    let new = state g.S.Store c.query.follows.lender-at-none in
    let held = c.query.follows.holds-at-none in
    let params : Row = bound (c.integer.result ∷ []) in
    let mode : c.args.conn.now.in_transaction ≡ false → c.query.follows.lender-at-none.in_transaction ≡ false = search rules in
    let kept : Survives old new (CommitsShowing select_texts params old) = search rules in
    let fails : HasCleanDisk new → IfErr c.query.result (FailsToQuery select_texts params old new) = search rules in
    reads_failed select_texts params old new texts_shows _ _ c.from_residual.ensures.0 (λ clean. rw c.in_err-rows.was at (fails clean)) mode kept

pub each-init : goal.each-init
each-init g c =
    let made = c.in_ok-rows.ensures in
    let old = state g.S.Store c.args.conn.now in
    let new = state g.S.Store c.in_ok-rows.rows.conn.now in
    let begun : HasCleanDisk new → HasGiven g.S.Store select_texts (number_value c.args.from ∷ []) c.in_ok-rows.rows.conn.now [] × IsUnchanged old new =
    λ clean. begun_shows g.S.Store select_texts (number_value c.args.from ∷ []) c.args.conn.now c.in_ok-rows.rows.conn.now texts_shows (rw c.integer.ensures at (made.begun clean)) in (
      refl,
      reads_same old new tt (λ clean. (begun clean).1) made.mode (query_survives select_texts (bound (c.integer.result ∷ [])) old new texts_shows made.survives),
      refl,
      λ clean. stands_first g.S.Store c.args.from c.args.conn.now (AreSoFar (g.W.Write.contents c.args.writer.now.inner) (g.W.Write.contents c.args.writer.now.inner) false) c.in_ok-rows.rows.conn.now (none_so_far (g.W.Write.contents c.args.writer.now.inner)) (begun clean),
    )

pub returns-in_default-clause-writes : goal.returns-in_default-clause-writes
returns-in_default-clause-writes g c clean rows has =
    let moved = c.next.follows.holds-at-none in
    let now = c.next.follows.lender-at-none.conn.now in
    let late : HasCleanDisk (state g.S.Store now) = search rules in
    let was = c.each.invariant.3 (omega (arith, moved.survives.clean)) in
    let done = rw (c.in_ok-row.was, c.in_default.is) at (moved.ok late) in
    let are = texts_are_all g.S.Store c.args.from c.args.conn.now (AreSoFar (g.W.Write.contents c.args.writer.now.inner) (g.W.Write.contents c.each.writer.inner) c.each.has_some) c.each.rows.conn.now now was done rows has in
    rw c.written_if.ensures (all_so_far c.args.from ((state g.S.Store c.args.conn.now).now.trees 2) (g.W.Write.contents c.args.writer.now.inner) (g.W.Write.contents c.each.writer.inner) c.each.has_some was.texts was.holds are)

pub returns-in_err-is_done-clause-fault : goal.returns-in_err-is_done-clause-fault
returns-in_err-is_done-clause-fault g c clean =
    let moved = c.next.follows.holds-at-none in
    let now = c.next.follows.lender-at-none.conn.now in
    let late : HasCleanDisk (state g.S.Store now) = search rules in
    let was = c.each.invariant.3 (omega (arith, moved.survives.clean)) in
    let one = rw (c.in_ok-row.was, c.in-Some.is) at (moved.ok late) in
    let same = rw c.in_ok-row.was at (moved.same late) in
    let p = err_from_is_err_and c.from_residual-in_err-is_done.result c.from_residual-in_err-is_done.ensures.1 in
    let refused : (rows : Rows) → HasRows rows (state g.S.Store c.args.conn.now).now → IsOfStore c.in_err-is_done.field-0.0 =
    λ rows has. of_store_only (IsText c.in-Some.row.now)
    (row_shows_text g.S.Store c.args.from c.args.conn.now (AreSoFar (g.W.Write.contents c.args.writer.now.inner) (g.W.Write.contents c.each.writer.inner) c.each.has_some) c.each.rows.conn.now now was c.in-Some.row.now one same rows has)
    c.in_err-is_done.field-0.0 c.in_err-is_done.ensures.fault in
    rw (p.1, p.2) refused

pub returns-then-not-is_done-clause-reads : goal.returns-then-not-is_done-clause-reads
returns-then-not-is_done-clause-reads g c =
    let moved = c.next.follows.holds-at-none in
    let before = c.each.rows.conn.now in
    let now = c.next.follows.lender-at-none.conn.now in
    let same : HasCleanDisk (state g.S.Store now) → IsUnchanged (state g.S.Store before) (state g.S.Store now) = λ clean. rw c.in_ok-row.was at (moved.same clean) in
    let all : Reads {T = Written} (state g.S.Store c.args.conn.now) (state g.S.Store now) (Ok Failed) =
    c.each.invariant.1 then reads_same (state g.S.Store before) (state g.S.Store now) Failed same moved.mode moved.survives in
    search rules

pub each-preserved : goal.each-preserved
each-preserved g c =
    let moved = c.next.follows.holds-at-none in
    let before = c.each.rows.conn.now in
    let now = c.next.follows.lender-at-none.conn.now in
    let same : HasCleanDisk (state g.S.Store now) → IsUnchanged (state g.S.Store before) (state g.S.Store now) = λ clean. rw c.in_ok-row.was at (moved.same clean) in
    let some : c.in_ok-is_done.is_done ≡ true = search rules in
    let taken = row_written c.in-Some.row.now (g.W.Write.contents c.each.writer.inner) (g.W.Write.contents c.write_row.new.writer.inner) c.each.writer.failed c.write_row.new.writer.failed c.in_ok-is_done.is_done some c.in_ok-is_done.ensures.writes in (
      moved.same_reference ∙ c.each.invariant.0,
      c.each.invariant.1 then reads_same (state g.S.Store before) (state g.S.Store now) tt same moved.mode moved.survives,
      taken.3 ∙ c.each.invariant.2,
      λ clean.
          let was = c.each.invariant.3 (omega (arith, moved.survives.clean)) in
          let one = rw (c.in_ok-row.was, c.in-Some.is) at (moved.ok clean) in
          stands_next g.S.Store c.args.from c.args.conn.now (AreSoFar (g.W.Write.contents c.args.writer.now.inner) (g.W.Write.contents c.each.writer.inner) c.each.has_some) before now was (AreSoFar (g.W.Write.contents c.args.writer.now.inner) (g.W.Write.contents c.write_row.new.writer.inner) true) c.in-Some.row.now taken.0 one (same clean) taken.1
          (λ so_far. more_so_far (g.W.Write.contents c.args.writer.now.inner) (g.W.Write.contents c.each.writer.inner) (g.W.Write.contents c.write_row.new.writer.inner) c.each.has_some was.texts taken.0 so_far taken.2),
    )
