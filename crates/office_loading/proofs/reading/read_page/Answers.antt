use Rattle.std.proofs.{Common.{◌≡◌, [], ◌∷◌, true, false, Ok, IfErr, refl, sym, subst, ◌∙◌, rules, arith}, lemmas.Result.err_from_is_err_and}
use Rattle.sqlite.specs.{Values.bound, Order.Row, Held.state, Given.HasGiven, State.{HasCleanDisk, IsUnchanged, FailsToQuery, Survives, CommitsShowing}}
use Rattle.office_rows.specs.{Values.number_value, Rows.Rows, Stored.HasRows}
use Rattle.office_tables.{specs.{Faults.IsOfStore, Reading.Reads}, proofs.MadeLemmas.{reads_same, reads_failed, query_survives, ◌then◌}}
use Rattle.office_loading.{specs.{Texts.IsText, Pages.TellsPage, declared.page.TextsPage.TextsPage}, proofs.StreamLemmas.begun_shows}
use Rattle.office_loading.proofs.TextQuery.{select_texts, texts_shows, AreRead, none_read, more_read, stands_first, stands_next, row_shows_text, text_is_next, texts_are_all}
use Rattle.office_loading.proofs.TakenLemmas.{row_taken, row_left, counted_more, of_store_only, page_of_all, page_of_first}
use Rattle.office_loading.proofs.reading.read_page.Goals as goal

pub returns-in_err-rows-clause-reads : goal.returns-in_err-rows-clause-reads
returns-in_err-rows-clause-reads g c =
    let old = state g.S.Store c.args.conn.now in
    let new = state g.S.Store c.query.follows.lender-at-none in
    let held = c.query.follows.holds-at-none in
    let params : Row = bound (c.integer.result ∷ []) in
    let mode : c.args.conn.now.in_transaction ≡ false → c.query.follows.lender-at-none.in_transaction ≡ false = search rules in
    let kept : Survives old new (CommitsShowing select_texts params old) = search rules in
    let fails : HasCleanDisk new → IfErr c.query.result (FailsToQuery select_texts params old new) = search rules in
    reads_failed select_texts params old new texts_shows _ _ c.from_residual.ensures.0 (λ clean. rw c.in_err-rows.was at (fails clean)) mode kept

pub each-init : goal.each-init
each-init g c =
    let made = c.in_ok-rows.ensures in
    let old = state g.S.Store c.args.conn.now in
    let new = state g.S.Store c.in_ok-rows.rows.conn.now in
    let begun : HasCleanDisk new → HasGiven g.S.Store select_texts (number_value c.args.from ∷ []) c.in_ok-rows.rows.conn.now [] × IsUnchanged old new =
    λ clean. begun_shows g.S.Store select_texts (number_value c.args.from ∷ []) c.args.conn.now c.in_ok-rows.rows.conn.now texts_shows (rw c.integer.ensures at (made.begun clean)) in (
      refl,
      reads_same old new tt (λ clean. (begun clean).1) made.mode (query_survives select_texts (bound (c.integer.result ∷ [])) old new texts_shows made.survives),
      omega (arith, c.new-page.ensures.count),
      λ clean. stands_first g.S.Store c.args.from c.args.conn.now (AreRead c.args.most c.new-page.result.lines.items c.new-page.result.count) c.in_ok-rows.rows.conn.now (rw (c.new-page.ensures.lines, c.new-page.ensures.count) (none_read c.args.most)) (begun clean),
    )

pub returns-in_default-clause-page : goal.returns-in_default-clause-page
returns-in_default-clause-page g c clean =
    let moved = c.next.follows.holds-at-none in
    let now = c.next.follows.lender-at-none.conn.now in
    let late : HasCleanDisk (state g.S.Store now) = search rules in
    let was = c.each.invariant.3 (omega (arith, moved.survives.clean)) in
    let done = rw (c.in_ok-row.was, c.in_default.is) at (moved.ok late) in
    λ rows has. page_of_all c.args.from c.args.most ((state g.S.Store c.args.conn.now).now.trees 2) c.each.page.lines.items c.each.page.count was.texts was.holds
    (texts_are_all g.S.Store c.args.from c.args.conn.now (AreRead c.args.most c.each.page.lines.items c.each.page.count) c.each.rows.conn.now now was done rows has)

pub returns-in_err-had_room-clause-fault : goal.returns-in_err-had_room-clause-fault
returns-in_err-had_room-clause-fault g c clean =
    let moved = c.next.follows.holds-at-none in
    let now = c.next.follows.lender-at-none.conn.now in
    let late : HasCleanDisk (state g.S.Store now) = search rules in
    let was = c.each.invariant.3 (omega (arith, moved.survives.clean)) in
    let one = rw (c.in_ok-row.was, c.in-Some.is) at (moved.ok late) in
    let same = rw c.in_ok-row.was at (moved.same late) in
    let p = err_from_is_err_and c.from_residual-in_err-had_room.result c.from_residual-in_err-had_room.ensures.1 in
    let refused : (rows : Rows) → HasRows rows (state g.S.Store c.args.conn.now).now → IsOfStore c.in_err-had_room.field-0.0 =
    λ rows has. of_store_only (IsText c.in-Some.row.now)
    (row_shows_text g.S.Store c.args.from c.args.conn.now (AreRead c.args.most c.each.page.lines.items c.each.page.count) c.each.rows.conn.now now was c.in-Some.row.now one same rows has)
    c.in_err-had_room.field-0.0 c.in_err-had_room.ensures.fault in
    rw (p.1, p.2) refused

pub returns-then-not-had_room-clause-page : goal.returns-then-not-had_room-clause-page
returns-then-not-had_room-clause-page g c clean rows has =
    let moved = c.next.follows.holds-at-none in
    let now = c.next.follows.lender-at-none.conn.now in
    let late : HasCleanDisk (state g.S.Store now) = search rules in
    let was = c.each.invariant.3 (omega (arith, moved.survives.clean)) in
    let one = rw (c.in_ok-row.was, c.in-Some.is) at (moved.ok late) in
    let same = rw c.in_ok-row.was at (moved.same late) in
    let none : c.in_ok-had_room.had_room ≡ false = search rules in
    let left = row_left c.args.most c.in-Some.row.now c.each.page c.take.new.self c.in_ok-had_room.had_room none c.in_ok-had_room.ensures.takes in
    let next = text_is_next g.S.Store c.args.from c.args.conn.now (AreRead c.args.most c.each.page.lines.items c.each.page.count) c.each.rows.conn.now now was c.in-Some.row.now left.0 one same left.1 rows has in
    let tells = page_of_first c.args.from c.args.most ((state g.S.Store c.args.conn.now).now.trees 2) c.each.page.lines.items c.each.page.count was.texts was.holds left.0 left.2 next.0 next.1 in
    subst (λ (page : TextsPage). TellsPage c.args.from c.args.most ((state g.S.Store c.args.conn.now).now.trees 2) page.lines.items page.count) (sym left.3) tells

pub returns-then-not-had_room-clause-reads : goal.returns-then-not-had_room-clause-reads
returns-then-not-had_room-clause-reads g c =
    let moved = c.next.follows.holds-at-none in
    let before = c.each.rows.conn.now in
    let now = c.next.follows.lender-at-none.conn.now in
    let same : HasCleanDisk (state g.S.Store now) → IsUnchanged (state g.S.Store before) (state g.S.Store now) = λ clean. rw c.in_ok-row.was at (moved.same clean) in
    let all : Reads {T = TextsPage} (state g.S.Store c.args.conn.now) (state g.S.Store now) (Ok c.take.new.self) =
    c.each.invariant.1 then reads_same (state g.S.Store before) (state g.S.Store now) c.take.new.self same moved.mode moved.survives in
    search rules

pub each-preserved : goal.each-preserved
each-preserved g c =
    let moved = c.next.follows.holds-at-none in
    let before = c.each.rows.conn.now in
    let now = c.next.follows.lender-at-none.conn.now in
    let same : HasCleanDisk (state g.S.Store now) → IsUnchanged (state g.S.Store before) (state g.S.Store now) = λ clean. rw c.in_ok-row.was at (moved.same clean) in
    let some : c.in_ok-had_room.had_room ≡ true = search rules in
    let taken = row_taken c.args.most c.in-Some.row.now c.each.page c.take.new.self c.in_ok-had_room.had_room some c.in_ok-had_room.ensures.takes in (
      moved.same_reference ∙ c.each.invariant.0,
      c.each.invariant.1 then reads_same (state g.S.Store before) (state g.S.Store now) tt same moved.mode moved.survives,
      counted_more taken.0 c.each.page c.take.new.self taken.3 c.each.invariant.2,
      λ clean.
          let was = c.each.invariant.3 (omega (arith, moved.survives.clean)) in
          let one = rw (c.in_ok-row.was, c.in-Some.is) at (moved.ok clean) in
          stands_next g.S.Store c.args.from c.args.conn.now (AreRead c.args.most c.each.page.lines.items c.each.page.count) before now was (AreRead c.args.most c.take.new.self.lines.items c.take.new.self.count) c.in-Some.row.now taken.0 one (same clean) taken.1
          (λ read. more_read c.args.most c.each.page.lines.items c.each.page.count was.texts read taken.0 taken.2 c.take.new.self.lines.items c.take.new.self.count taken.3.lines taken.3.count),
    )
