use Rattle.std.proofs.Common.{◌≡◌, [], false, Err, Ok, Result, IfErr, IfOk, ℕ, refl, rules, ◌∙◌}
use Rattle.sqlite_trees.specs.declared.store.Store.{Ghosts}
use Rattle.sqlite.specs.{Held.{Held, state}, Given.HasGiven, State.{HasCleanDisk, IsUnchanged, FailsToQuery, Survives, CommitsShowing}}
use Rattle.sqlite.specs.declared.rows.stream.Rows.{Rows}
use Rattle.office_loading.specs.Closed.{last_closed}
use Rattle.office_rows.specs.{Rows.Rows as OfficeRows, Stored.HasRows}
use Rattle.office_tables.proofs.MadeLemmas.{reads_failed}
use Rattle.office_closing.{specs.{declared.arriving.Likeness.Likeness, declared.faults.FileFault.FileFault, Files.IsRead}, proofs.JudgeLemmas.read_err}
use Rattle.office_closing.{specs.Arriving.{AreCompared, IsReadOn, IsTold, StandInOrder, select_arrivals}, proofs.ArrivalQuery.{only_shows, tells_texts}}
use Rattle.office_closing.proofs.ArrivingLemmas.{begun_is, begun_read, on_clean, on_same, read_any, read_since}
use Rattle.office_closing.proofs.arriving.likeness_of_texts.Goals as goal

-- what two queries tell from their start is told of the rows
told_of : {S A : Type 0} (g : Ghosts S) (h : Ghosts A) (closed : ℕ → ℕ) (own : Held S) (own1 own2 : Rows S g) (copy : Held A) (copy1 copy2 : Rows A h)
    → HasGiven g select_arrivals [] own1.conn.now [] × IsUnchanged (state g own) (state g own1.conn.now) → HasGiven h select_arrivals [] copy1.conn.now [] × IsUnchanged (state h copy) (state h copy1.conn.now)
    → HasCleanDisk (state g own2.conn.now) → HasCleanDisk (state h copy2.conn.now)
    → (result : Result Likeness FileFault) → IsReadOn g own1 own2 result → IsReadOn h copy1 copy2 result
    → IfOk result (AreCompared g h closed own1.conn.now own2.conn.now copy1.conn.now copy2.conn.now)
    → IfOk result (λ told. (rows rows' : OfficeRows) → HasRows rows (state g own).now → HasRows rows' (state h copy).now →
    StandInOrder rows.interchanges ((state g own).now.trees 2) → StandInOrder rows'.interchanges ((state h copy).now.trees 2) → IsTold closed rows rows' told)
told_of g h closed own own1 own2 copy copy1 copy2 begun begun' clean clean' (Ok told) on on' compared = λ rows rows' has has' order order'.
    tells_texts g h closed own own1.conn.now own2.conn.now copy copy1.conn.now copy2.conn.now begun.1 begun'.1
    (on_same g own1 own2 told on clean ∙ begun.1.0.now_is) (on_same h copy1 copy2 told on' clean' ∙ begun'.1.0.now_is) rows rows' has has' order order' told
    (compared select_arrivals only_shows begun.0 begun'.0)
told_of g h closed own own1 own2 copy copy1 copy2 begun begun' clean clean' (Err fault) on on' compared = compared

-- ---- the store's query does not begin

pub returns-in-Err-clause-store_read : goal.returns-in-Err-clause-store_read
returns-in-Err-clause-store_read g c =
    let old = state g.S.Store c.args.store.now in
    let new = state g.S.Store c.query.follows.lender-at-none in
    let mode : c.args.store.now.in_transaction ≡ false → c.query.follows.lender-at-none.in_transaction ≡ false = search rules in
    let kept : Survives old new (CommitsShowing select_arrivals [] old) = search rules in
    let fails : HasCleanDisk new → IfErr c.query.result (FailsToQuery select_arrivals [] old new) = search rules in
    read_err c.fault_in.result (reads_failed select_arrivals [] old new only_shows {T = Likeness} c.in-Err.error (Err c.fault_in.result.fault) refl (λ clean. rw c.in-Err.is at (fails clean)) mode kept)

-- ---- the archive's does not begin

pub returns-in-Err-query-clause-store_read : goal.returns-in-Err-query-clause-store_read
returns-in-Err-query-clause-store_read g c =
    let made = c.in-Ok.ensures in
    let old = state g.S.Store c.args.store.now in
    let new = state g.S.Store c.in-Ok.rows.conn.now in
    let read : IsRead {T = Likeness} {E = FileFault} old new (Err c.fault_in-in-Err-query.result) =
    read_any g.S.Store old new tt (Err c.fault_in-in-Err-query.result) (begun_read g.S.Store select_arrivals c.args.store.now c.in-Ok.rows.conn.now only_shows made.begun made.mode made.survives) in
    search rules

pub returns-in-Err-query-clause-archive_read : goal.returns-in-Err-query-clause-archive_read
returns-in-Err-query-clause-archive_read g c =
    let old = state g.A.Store c.args.archive.now in
    let new = state g.A.Store c.query-2.follows.lender-at-none in
    let mode : c.args.archive.now.in_transaction ≡ false → c.query-2.follows.lender-at-none.in_transaction ≡ false = search rules in
    let kept : Survives old new (CommitsShowing select_arrivals [] old) = search rules in
    let fails : HasCleanDisk new → IfErr c.query-2.result (FailsToQuery select_arrivals [] old new) = search rules in
    read_err c.fault_in-in-Err-query.result (reads_failed select_arrivals [] old new only_shows {T = Likeness} c.in-Err-query.error (Err c.fault_in-in-Err-query.result.fault) refl (λ clean. rw c.in-Err-query.is at (fails clean)) mode kept)

-- ---- both are read

pub returns-clause-store_read : goal.returns-clause-store_read
returns-clause-store_read g c =
    let made = c.in-Ok.ensures in
    let read : IsRead (state g.S.Store c.args.store.now) (state g.S.Store c.likeness_of_queries.new.own.conn.now) c.likeness_of_queries.result =
    read_since g.S.Store (state g.S.Store c.args.store.now) c.in-Ok.rows c.likeness_of_queries.new.own tt c.likeness_of_queries.result
    (begun_read g.S.Store select_arrivals c.args.store.now c.in-Ok.rows.conn.now only_shows made.begun made.mode made.survives) c.likeness_of_queries.ensures.own in
    search rules

pub returns-clause-archive_read : goal.returns-clause-archive_read
returns-clause-archive_read g c =
    let made = c.in-Ok-query.ensures in
    let read : IsRead (state g.A.Store c.args.archive.now) (state g.A.Store c.likeness_of_queries.new.copy.conn.now) c.likeness_of_queries.result =
    read_since g.A.Store (state g.A.Store c.args.archive.now) c.in-Ok-query.rows c.likeness_of_queries.new.copy tt c.likeness_of_queries.result
    (begun_read g.A.Store select_arrivals c.args.archive.now c.in-Ok-query.rows.conn.now only_shows made.begun made.mode made.survives) c.likeness_of_queries.ensures.copy in
    search rules

pub returns-clause-told : goal.returns-clause-told
returns-clause-told g c here there =
    let own' = state g.S.Store c.likeness_of_queries.new.own.conn.now in
    let copy' = state g.A.Store c.likeness_of_queries.new.copy.conn.now in
    let clean : HasCleanDisk own' = search rules in
    let clean' : HasCleanDisk copy' = search rules in
    let before = on_clean g.S.Store c.in-Ok.rows c.likeness_of_queries.new.own c.likeness_of_queries.result c.likeness_of_queries.ensures.own clean in
    let before' = on_clean g.A.Store c.in-Ok-query.rows c.likeness_of_queries.new.copy c.likeness_of_queries.result c.likeness_of_queries.ensures.copy clean' in
    told_of g.S.Store g.A.Store (last_closed c.args.closed.now) c.args.store.now c.in-Ok.rows c.likeness_of_queries.new.own c.args.archive.now c.in-Ok-query.rows c.likeness_of_queries.new.copy
    (begun_is g.S.Store select_arrivals c.args.store.now c.in-Ok.rows.conn.now only_shows c.in-Ok.ensures.begun before)
    (begun_is g.A.Store select_arrivals c.args.archive.now c.in-Ok-query.rows.conn.now only_shows c.in-Ok-query.ensures.begun before')
    clean clean' c.likeness_of_queries.result c.likeness_of_queries.ensures.own c.likeness_of_queries.ensures.copy (c.likeness_of_queries.ensures.compared clean clean')
