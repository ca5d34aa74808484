use Rattle.std.proofs.{Common.{◌≡◌, [], ◌∷◌, ◌++◌, true, false, IfErr, refl, ◌∙◌, rules, arith}, lemmas.Result.err_from_is_err_and}
use Rattle.sqlite.specs.{Held.state, Given.HasGiven, State.{HasCleanDisk, IsUnchanged, FailsToQuery, Survives, CommitsShowing}}
use Rattle.office_loading.{specs.{Closed.last_closed, Texts.IsText}, proofs.{StreamLemmas.{begun_shows, stands_first, stands_next}, TakenLemmas.of_store_only}}
use Rattle.office_rows.specs.{Rows.Rows, Stored.HasRows}
use Rattle.office_tables.{specs.Faults.IsOfStore, proofs.MadeLemmas.{reads_same, reads_failed, query_survives, ◌then◌}}
use Rattle.office_archives.proofs.PartQuery.{select_part, part_shows, IsRow, none_done, row_passed, more_done, row_shows_text, all_are_shown, part_done}
use Rattle.office_archives.proofs.writing.write_part.Goals as goal

pub returns-in_err-rows-clause-reads : goal.returns-in_err-rows-clause-reads
returns-in_err-rows-clause-reads g c =
    let old = state g.S.Store c.args.conn.now in
    let new = state g.S.Store c.query.follows.lender-at-none in
    let mode : c.args.conn.now.in_transaction ≡ false → c.query.follows.lender-at-none.in_transaction ≡ false = search rules in
    let kept : Survives old new (CommitsShowing select_part [] old) = search rules in
    let fails : HasCleanDisk new → IfErr c.query.result (FailsToQuery select_part [] old new) = search rules in
    reads_failed select_part [] old new part_shows _ _ c.from_residual.ensures.0 (λ clean. rw c.in_err-rows.was at (fails clean)) mode kept

pub each-init : goal.each-init
each-init g c =
    let made = c.in_ok-rows.ensures in
    let old = state g.S.Store c.args.conn.now in
    let new = state g.S.Store c.in_ok-rows.rows.conn.now in
    let begun : HasCleanDisk new → HasGiven g.S.Store select_part [] c.in_ok-rows.rows.conn.now [] × IsUnchanged old new =
    λ clean. begun_shows g.S.Store select_part [] c.args.conn.now c.in_ok-rows.rows.conn.now part_shows (made.begun clean) in
    record {
      same_rows = refl;
      reads = reads_same old new tt (λ clean. (begun clean).1) made.mode (query_survives select_part [] old new part_shows made.survives);
      works = refl;
      read = (
        [],
        λ clean. stands_first g.S.Store IsRow select_part c.args.conn.now c.in_ok-rows.rows.conn.now (begun clean),
        none_done (last_closed c.args.before.now) (last_closed c.args.after.now) c.args.rest (g.W.Write.contents c.args.writer.now.inner) c.new-passing.result c.new-passing.ensures.rest c.new-passing.ensures.found,
      );
    }

pub returns-in_default-clause-writes : goal.returns-in_default-clause-writes
returns-in_default-clause-writes g c clean rows has stand =
    let moved = c.next.follows.holds-at-none in
    let now = c.next.follows.lender-at-none.conn.now in
    let late : HasCleanDisk (state g.S.Store now) = search rules in
    let read = c.each.invariant.read in
    let was = read.1 (omega (arith, moved.survives.clean)) in
    let done = rw (c.in_ok-row.was, c.in_default.is) at (moved.ok late) in
    let shown = all_are_shown g.S.Store c.args.conn.now c.each.rows.conn.now now read.0 was rows has done stand in
    part_done (last_closed c.args.before.now) (last_closed c.args.after.now) c.args.rest rows.interchanges (g.W.Write.contents c.args.writer.now.inner) (g.W.Write.contents c.each.writer.inner) c.each.passing c.left.result (read.2 rows.interchanges shown) c.left.ensures.from c.left.ensures.carried

pub returns-in_err-is_done-clause-fault : goal.returns-in_err-is_done-clause-fault
returns-in_err-is_done-clause-fault g c clean =
    let moved = c.next.follows.holds-at-none in
    let now = c.next.follows.lender-at-none.conn.now in
    let late : HasCleanDisk (state g.S.Store now) = search rules in
    let read = c.each.invariant.read in
    let was = read.1 (omega (arith, moved.survives.clean)) in
    let one = rw (c.in_ok-row.was, c.in-Some.is) at (moved.ok late) in
    let same = rw c.in_ok-row.was at (moved.same late) in
    let p = err_from_is_err_and c.from_residual-in_err-is_done.result c.from_residual-in_err-is_done.ensures.1 in
    let refused : (rows : Rows) → HasRows rows (state g.S.Store c.args.conn.now).now → IsOfStore c.in_err-is_done.field-0.0 =
    λ rows has. of_store_only (IsText c.in-Some.row.now)
    (row_shows_text g.S.Store c.args.conn.now c.each.rows.conn.now now read.0 was rows has c.in-Some.row.now one same)
    c.in_err-is_done.field-0.0 c.in_err-is_done.ensures.fault in
    rw (p.1, p.2) refused

pub each-preserved : goal.each-preserved
each-preserved g c =
    let moved = c.next.follows.holds-at-none in
    let before = c.each.rows.conn.now in
    let now = c.next.follows.lender-at-none.conn.now in
    let same : HasCleanDisk (state g.S.Store now) → IsUnchanged (state g.S.Store before) (state g.S.Store now) = λ clean. rw c.in_ok-row.was at (moved.same clean) in
    let some : c.in_ok-is_done.is_done ≡ true = search rules in
    let row = c.in-Some.row.now in
    let read = c.each.invariant.read in
    let passed = row_passed (last_closed c.args.before.now) (last_closed c.args.after.now) row c.each.passing c.pass_row.new.passing (g.W.Write.contents c.each.writer.inner) (g.W.Write.contents c.pass_row.new.writer.inner) c.each.writer.failed c.pass_row.new.writer.failed c.in_ok-is_done.is_done some c.in_ok-is_done.ensures.passes in
    record {
      same_rows = moved.same_reference ∙ c.each.invariant.same_rows;
      reads = c.each.invariant.reads then reads_same (state g.S.Store before) (state g.S.Store now) tt same moved.mode moved.survives;
      works = passed.0 ∙ c.each.invariant.works;
      read = (
        read.0 ++ row ∷ [],
        λ clean.
            let was = read.1 (omega (arith, moved.survives.clean)) in
            let one = rw (c.in_ok-row.was, c.in-Some.is) at (moved.ok clean) in
            stands_next g.S.Store IsRow select_part c.args.conn.now before now read.0 was (read.0 ++ row ∷ []) row row one (same clean) refl refl,
        more_done (last_closed c.args.before.now) (last_closed c.args.after.now) c.args.rest read.0 row (g.W.Write.contents c.args.writer.now.inner) (g.W.Write.contents c.each.writer.inner) (g.W.Write.contents c.pass_row.new.writer.inner) c.each.passing c.pass_row.new.passing c.each.writer.failed c.pass_row.new.writer.failed passed read.2,
      );
    }
