use Rattle.std.proofs.Common.{◌≡◌, IsTrue, true, not, refl, sym, ap, subst, ◌∙◌, arith, rules}
use Rattle.sqlite.{specs.{State.{HasCleanDisk, Survives}, Held.state, Effect.Database}, proofs.{StateLemmas.survives_then, Callers.survives_begin}}
use Rattle.office_rows.specs.Tables.{office_tables}
use Rattle.office_tables.specs.{Order.HasRowsInOrder, Opened.AreMissing}
use Rattle.office_loading.{specs.{Contents.opened_rows, Copies.copied_rows, Migration.IsCopy}, proofs.MigratedLemmas.{made_rows, copied_whole}}
use Rattle.office_loading.proofs.migrating.copy_tables.Goals as goal

pub returns-in_err-commit-clause-crash : goal.returns-in_err-commit-clause-crash
returns-in_err-commit-clause-crash g c here =
    let old = c.args.new.now in
    let begun = record old { in_transaction = true } in
    let last = c.write_copy.new.tx.conn.now in
    let end = c.commit.new.self.0 in
    let from = state g.S.Store c.args.old.now in
    let tables = opened_rows c.args.tables.now in
    let begins : c.transaction-tx.result.conn.now ≡ begun = c.transaction-tx.ensures.begun in
    let P = IsCopy from.now tables (state g.T.Store old).committed in
    let commits : (db : _) → HasCleanDisk (state g.T.Store last) → db ≡ (state g.T.Store last).now.trees → P db = λ db clean made.
    let copy = rw begins at (c.in_ok-write_copy.ensures.made clean (rw begins refl)) in
    let keeps = rw begins at (c.write_copy.ensures.keeps clean (rw begins refl)) in
    let settled = c.is_autocommit-is_idle.ensures.settled (c.is_autocommit-is_idle.ensures.value ∙ ap not c.requires) (keeps.was_open copy.turns.is_open) in
    copied_whole from (state g.S.Store c.write_copy.new.old) tables (state g.T.Store old) (state g.T.Store begun) (state g.T.Store last) db here copy settled made in
    let inside = survives_begin g.T.Store old (state g.T.Store last) _ (rw begins at c.write_copy.ensures.survives) in
    let all = survives_then (state g.T.Store old) (state g.T.Store last) (state g.T.Store end) _ _ P (λ _ db none. absurd none)
    (λ clean db made. commits db (omega (arith, c.commit.ensures.survives.clean)) made) inside c.commit.ensures.survives in
    let same : end ≡ c.new-2-1.given.0 = search rules in
    subst (λ h. Survives (state g.T.Store old) (state g.T.Store h) P) same all

pub returns-clause-crash : goal.returns-clause-crash
returns-clause-crash g c here =
    let old = c.args.new.now in
    let begun = record old { in_transaction = true } in
    let last = c.write_copy.new.tx.conn.now in
    let end = c.commit.new.self.0 in
    let from = state g.S.Store c.args.old.now in
    let tables = opened_rows c.args.tables.now in
    let begins : c.transaction-tx.result.conn.now ≡ begun = c.transaction-tx.ensures.begun in
    let P = IsCopy from.now tables (state g.T.Store old).committed in
    let commits : (db : _) → HasCleanDisk (state g.T.Store last) → db ≡ (state g.T.Store last).now.trees → P db = λ db clean made.
    let copy = rw begins at (c.in_ok-write_copy.ensures.made clean (rw begins refl)) in
    let keeps = rw begins at (c.write_copy.ensures.keeps clean (rw begins refl)) in
    let settled = c.is_autocommit-is_idle.ensures.settled (c.is_autocommit-is_idle.ensures.value ∙ ap not c.requires) (keeps.was_open copy.turns.is_open) in
    copied_whole from (state g.S.Store c.write_copy.new.old) tables (state g.T.Store old) (state g.T.Store begun) (state g.T.Store last) db here copy settled made in
    let inside = survives_begin g.T.Store old (state g.T.Store last) _ (rw begins at c.write_copy.ensures.survives) in
    let all = survives_then (state g.T.Store old) (state g.T.Store last) (state g.T.Store end) _ _ P (λ _ db none. absurd none)
    (λ clean db made. commits db (omega (arith, c.commit.ensures.survives.clean)) made) inside c.commit.ensures.survives in
    let same : end ≡ c.new-2-1.given.0 = search rules in
    subst (λ h. Survives (state g.T.Store old) (state g.T.Store h) P) same all

pub returns-clause-ok : goal.returns-clause-ok
returns-clause-ok g c clean here is =
    let old = c.args.new.now in
    let begun = record old { in_transaction = true } in
    let last = c.write_copy.new.tx.conn.now in
    let end = c.commit.new.self.0 in
    let from = state g.S.Store c.args.old.now in
    let tables = opened_rows c.args.tables.now in
    let begins : c.transaction-tx.result.conn.now ≡ begun = c.transaction-tx.ensures.begun in
    let same : end ≡ c.new-2-1.given.0 = search rules in
    let ended : HasCleanDisk (state g.T.Store end) = subst (λ h. HasCleanDisk (state g.T.Store h)) (sym same) clean in
    let before : HasCleanDisk (state g.T.Store last) = omega (arith, c.commit.ensures.survives.clean) in
    let copy = rw begins at (c.in_ok-write_copy.ensures.made before (rw begins refl)) in
    let keeps = rw begins at (c.write_copy.ensures.keeps before (rw begins refl)) in
    let settled = c.is_autocommit-is_idle.ensures.settled (c.is_autocommit-is_idle.ensures.value ∙ ap not c.requires) (keeps.was_open copy.turns.is_open) in
    let shows = (c.in_ok-commit.ensures.ok ended).1 in
    let open_now : IsTrue (state g.T.Store c.new-2-1.given.0).is_open = subst (λ h. IsTrue (state g.T.Store h).is_open) same shows.is_open in
    record {
      copied = copy.copied;
      are = copy.are here is;
      rows = λ none. subst (λ h. HasRowsInOrder (copied_rows tables copy.copied) (state g.T.Store h).committed) same
          (subst (HasRowsInOrder (copied_rows tables copy.copied)) (sym shows.committed_is) (made_rows tables copy.copied (state g.T.Store old) (state g.T.Store begun) (state g.T.Store last) settled copy.turns none));
      stays = record {
        settled = subst (λ h. (state g.T.Store h).now ≡ (state g.T.Store h).committed) same (shows.now_is ∙ sym shows.committed_is);
        is_open = open_now;
        alone = λ db left. g.met.T.Store.settled c.new-2-1.given.0.store db open_now left;
      };
    }

pub returns-clause-new : goal.returns-clause-new
returns-clause-new g c clean =
    let old = c.args.new.now in
    let begun = record old { in_transaction = true } in
    let last = c.write_copy.new.tx.conn.now in
    let end = c.commit.new.self.0 in
    let from = state g.S.Store c.args.old.now in
    let tables = opened_rows c.args.tables.now in
    let begins : c.transaction-tx.result.conn.now ≡ begun = c.transaction-tx.ensures.begun in
    let same : end ≡ c.new-2-1.given.0 = search rules in
    let ended : HasCleanDisk (state g.T.Store end) = subst (λ h. HasCleanDisk (state g.T.Store h)) (sym same) clean in
    let before : HasCleanDisk (state g.T.Store last) = omega (arith, c.commit.ensures.survives.clean) in
    let copy = rw begins at (c.in_ok-write_copy.ensures.made before (rw begins refl)) in
    let keeps = rw begins at (c.write_copy.ensures.keeps before (rw begins refl)) in
    let settled = c.is_autocommit-is_idle.ensures.settled (c.is_autocommit-is_idle.ensures.value ∙ ap not c.requires) (keeps.was_open copy.turns.is_open) in
    let missing : AreMissing office_tables (state g.T.Store begun).now.schema = rw begins at (c.in_ok-write_copy.ensures.new before (rw begins refl)) in
    subst (λ (d : Database). AreMissing office_tables d.schema) settled missing
