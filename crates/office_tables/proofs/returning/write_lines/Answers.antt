use Rattle.std.proofs.Common.{◌≡◌, IsTrue, OnErr, true, not, map, ap, subst, ◌∙◌, rules}
use Rattle.sqlite.specs.{Held.state, State.{HasCleanDisk, Survives}}
use Rattle.office_rows.specs.{Opening.with_lines, Rows.listing_content}
use Rattle.office_tables.{specs.Writing.{IsWholeInOrder, WritesWhole}, proofs.WriteLemmas.{none_left, crash_in_order, written_whole}}
use Rattle.office_tables.proofs.returning.write_lines.Goals as goal

pub returns-clause-writes : goal.returns-clause-writes
returns-clause-writes g c =
    let old = c.args.conn.now in
    let last = state g.S.Store c.insert_some.new.tx.conn.now in
    let end = c.commit.new.tx.0 in
    let change = with_lines (map listing_content c.args.lines.now) in
    let begins : c.transaction-tx.result.conn.now ≡ record old { in_transaction = true } = c.transaction-tx.ensures.begun in
    let same : end ≡ c.conn-2-1.given.0 = search rules in
    subst (λ h. WritesWhole change (state g.S.Store old) (state g.S.Store h) c.commit.result) same
    (written_whole g.S.Store change old last (state g.S.Store end) _ c.commit.result (c.is_autocommit-is_idle.ensures.settled (c.is_autocommit-is_idle.ensures.value ∙ ap not c.requires.idle)) (rw begins at c.in_ok-insert_some.ensures.writes)
    c.commit.ensures.was_open c.commit.ensures.err c.commit.ensures.survives c.commit.ensures.ended c.commit.ensures.ok (λ is_open db left. g.met.S.Store.settled end.store db is_open left) c.commit.ensures.fault)

pub returns-clause-undone : goal.returns-clause-undone
returns-clause-undone g c clean is_open =
    let old = c.args.conn.now in
    let last = state g.S.Store c.insert_some.new.tx.conn.now in
    let end = c.commit.new.tx.0 in
    let change = with_lines (map listing_content c.args.lines.now) in
    let begins : c.transaction-tx.result.conn.now ≡ record old { in_transaction = true } = c.transaction-tx.ensures.begun in
    let same : end ≡ c.conn-2-1.given.0 = search rules in
    subst (λ h. HasCleanDisk (state g.S.Store h) → IsTrue (state g.S.Store h).is_open → OnErr c.commit.result ((state g.S.Store h).now ≡ (state g.S.Store old).committed)) same
    (none_left g.S.Store change old last (state g.S.Store end) _ c.commit.result (c.is_autocommit-is_idle.ensures.settled (c.is_autocommit-is_idle.ensures.value ∙ ap not c.requires.idle)) (rw begins at c.in_ok-insert_some.ensures.writes)
    c.commit.ensures.was_open c.commit.ensures.err c.commit.ensures.survives) clean is_open

pub returns-clause-crash_in_order : goal.returns-clause-crash_in_order
returns-clause-crash_in_order g c =
    let old = c.args.conn.now in
    let last = state g.S.Store c.insert_some.new.tx.conn.now in
    let end = c.commit.new.tx.0 in
    let change = with_lines (map listing_content c.args.lines.now) in
    let begins : c.transaction-tx.result.conn.now ≡ record old { in_transaction = true } = c.transaction-tx.ensures.begun in
    let same : end ≡ c.conn-2-1.given.0 = search rules in
    subst (λ h. Survives (state g.S.Store old) (state g.S.Store h) (IsWholeInOrder change (state g.S.Store old))) same
    (crash_in_order g.S.Store change old last (state g.S.Store end) _ c.commit.result (c.is_autocommit-is_idle.ensures.settled (c.is_autocommit-is_idle.ensures.value ∙ ap not c.requires.idle)) (rw begins at c.in_ok-insert_some.ensures.writes)
    c.commit.ensures.was_open c.commit.ensures.err c.commit.ensures.survives)
