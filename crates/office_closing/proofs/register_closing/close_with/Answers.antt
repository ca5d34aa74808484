use Rattle.std.proofs.Common.{◌≡◌, IsTrue, map, true, not, refl, sym, ap, subst, ◌∙◌, arith, rules}
use Rattle.sqlite.{specs.{State.{HasCleanDisk, Survives}, Held.state}, proofs.{StateLemmas.survives_then, Callers.survives_begin}}
use Rattle.office_closing.specs.{Changes.{unchanged, closed_with}, Lists.list_content, Register.{archive_content, sealed_content}, Tables.whole}
use Rattle.office_closing.{specs.{Stored.{HasRegister, HasWhole}, Transactions.{Steps, HasBecome}}, proofs.Committing.became}
use Rattle.office_closing.proofs.register_closing.close_with.Goals as goal

pub returns-in_err-commit-clause-crash : goal.returns-in_err-commit-clause-crash
returns-in_err-commit-clause-crash g c =
    let old = c.args.conn.now in
    let begun = record old { in_transaction = true } in
    let last = c.write_closing.new.tx.conn.now in
    let end = c.commit.new.self.0 in
    let P = HasBecome unchanged (closed_with (archive_content c.args.archive.now) c.args.segments.now (map list_content c.args.lists.now) c.args.taken.now (map sealed_content c.args.sealed.now)) (state g.S.Store old) in
    let begins : c.transaction-tx.result.conn.now ≡ begun = c.transaction-tx.ensures.begun in
    let commits : (db : _) → HasCleanDisk (state g.S.Store last) → db ≡ (state g.S.Store last).now.trees → P db = λ db clean is content has.
    let steps : Steps HasRegister unchanged (closed_with (archive_content c.args.archive.now) c.args.segments.now (map list_content c.args.lists.now) c.args.taken.now (map sealed_content c.args.sealed.now)) (state g.S.Store begun) (state g.S.Store last) = rw begins at (c.in_ok-write_closing.ensures.writes.steps clean (rw begins refl)) in
    let keeps = rw begins at (c.write_closing.ensures.writes.keeps clean (rw begins refl)) in
    let settled = c.is_autocommit-is_idle.ensures.settled (c.is_autocommit-is_idle.ensures.value ∙ ap not c.requires) (keeps.was_open steps.is_open) in
    became unchanged (closed_with (archive_content c.args.archive.now) c.args.segments.now (map list_content c.args.lists.now) c.args.taken.now (map sealed_content c.args.sealed.now)) (state g.S.Store old) (state g.S.Store begun) (state g.S.Store last) db settled steps is content has in
    let inside = survives_begin g.S.Store old (state g.S.Store last) _ (rw begins at c.write_closing.ensures.writes.survives) in
    let all = survives_then (state g.S.Store old) (state g.S.Store last) (state g.S.Store end) _ _ P (λ _ db none. absurd none)
    (λ clean db is. commits db (omega (arith, c.commit.ensures.survives.clean)) is) inside c.commit.ensures.survives in
    let same : end ≡ c.conn-2-1.given.0 = search rules in
    subst (λ h. Survives (state g.S.Store old) (state g.S.Store h) P) same all

pub returns-clause-crash : goal.returns-clause-crash
returns-clause-crash g c =
    let old = c.args.conn.now in
    let begun = record old { in_transaction = true } in
    let last = c.write_closing.new.tx.conn.now in
    let end = c.commit.new.self.0 in
    let P = HasBecome unchanged (closed_with (archive_content c.args.archive.now) c.args.segments.now (map list_content c.args.lists.now) c.args.taken.now (map sealed_content c.args.sealed.now)) (state g.S.Store old) in
    let begins : c.transaction-tx.result.conn.now ≡ begun = c.transaction-tx.ensures.begun in
    let commits : (db : _) → HasCleanDisk (state g.S.Store last) → db ≡ (state g.S.Store last).now.trees → P db = λ db clean is content has.
    let steps : Steps HasRegister unchanged (closed_with (archive_content c.args.archive.now) c.args.segments.now (map list_content c.args.lists.now) c.args.taken.now (map sealed_content c.args.sealed.now)) (state g.S.Store begun) (state g.S.Store last) = rw begins at (c.in_ok-write_closing.ensures.writes.steps clean (rw begins refl)) in
    let keeps = rw begins at (c.write_closing.ensures.writes.keeps clean (rw begins refl)) in
    let settled = c.is_autocommit-is_idle.ensures.settled (c.is_autocommit-is_idle.ensures.value ∙ ap not c.requires) (keeps.was_open steps.is_open) in
    became unchanged (closed_with (archive_content c.args.archive.now) c.args.segments.now (map list_content c.args.lists.now) c.args.taken.now (map sealed_content c.args.sealed.now)) (state g.S.Store old) (state g.S.Store begun) (state g.S.Store last) db settled steps is content has in
    let inside = survives_begin g.S.Store old (state g.S.Store last) _ (rw begins at c.write_closing.ensures.writes.survives) in
    let all = survives_then (state g.S.Store old) (state g.S.Store last) (state g.S.Store end) _ _ P (λ _ db none. absurd none)
    (λ clean db is. commits db (omega (arith, c.commit.ensures.survives.clean)) is) inside c.commit.ensures.survives in
    let same : end ≡ c.conn-2-1.given.0 = search rules in
    subst (λ h. Survives (state g.S.Store old) (state g.S.Store h) P) same all

pub returns-clause-ok : goal.returns-clause-ok
returns-clause-ok g c clean =
    let old = c.args.conn.now in
    let begun = record old { in_transaction = true } in
    let last = c.write_closing.new.tx.conn.now in
    let end = c.commit.new.self.0 in
    let begins : c.transaction-tx.result.conn.now ≡ begun = c.transaction-tx.ensures.begun in
    let same : end ≡ c.conn-2-1.given.0 = search rules in
    let ended : HasCleanDisk (state g.S.Store end) = subst (λ h. HasCleanDisk (state g.S.Store h)) (sym same) clean in
    let before : HasCleanDisk (state g.S.Store last) = omega (arith, c.commit.ensures.survives.clean) in
    let steps : Steps HasRegister unchanged (closed_with (archive_content c.args.archive.now) c.args.segments.now (map list_content c.args.lists.now) c.args.taken.now (map sealed_content c.args.sealed.now)) (state g.S.Store begun) (state g.S.Store last) = rw begins at (c.in_ok-write_closing.ensures.writes.steps before (rw begins refl)) in
    let keeps = rw begins at (c.write_closing.ensures.writes.keeps before (rw begins refl)) in
    let settled = c.is_autocommit-is_idle.ensures.settled (c.is_autocommit-is_idle.ensures.value ∙ ap not c.requires) (keeps.was_open steps.is_open) in
    let shows = (c.in_ok-commit.ensures.ok ended).1 in
    let open_now : IsTrue (state g.S.Store c.conn-2-1.given.0).is_open = subst (λ h. IsTrue (state g.S.Store h).is_open) same shows.is_open in
    let alone : (db : _) → (state g.S.Store c.conn-2-1.given.0).may_leave db → db ≡ (state g.S.Store c.conn-2-1.given.0).committed.trees = λ db left. g.met.S.Store.settled c.conn-2-1.given.0.store db open_now left in
    record {
      register = λ content has. (
        whole,
        subst (λ h. HasWhole ((closed_with (archive_content c.args.archive.now) c.args.segments.now (map list_content c.args.lists.now) c.args.taken.now (map sealed_content c.args.sealed.now)) content) (state g.S.Store h).committed) same
            (subst (HasWhole ((closed_with (archive_content c.args.archive.now) c.args.segments.now (map list_content c.args.lists.now) c.args.taken.now (map sealed_content c.args.sealed.now)) content)) (sym shows.committed_is) (steps.register content (subst (HasRegister (unchanged content)) (sym settled) has))),
      );
      is_settled = record {
        settled = subst (λ h. (state g.S.Store h).now ≡ (state g.S.Store h).committed) same (shows.now_is ∙ sym shows.committed_is);
        is_open = open_now;
        alone = alone;
      };
    }
