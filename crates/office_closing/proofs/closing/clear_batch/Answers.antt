use Rattle.std.proofs.{Common.{◌≡◌, [], ◌∷◌, true, Err, not, ap, subst, ◌∙◌, rules}, lemmas.Result.err_from_is_err_and}
use Rattle.sqlite.specs.Held.{state}
use Rattle.office_parts.specs.LeftOver.{rows_without}
use Rattle.office_closing.{specs.{Clearing.{Clears, IsWithoutSome}, Deleting.goes}, proofs.ClearLemmas.{clears_batch, clears_nothing}}
use Rattle.office_closing.proofs.NumberLemmas.{whole_is_some, none_is_some}
use Rattle.office_closing.proofs.closing.clear_batch.Goals as goal

pub returns-in_err-delete_numbers : goal.returns-in_err-delete_numbers
returns-in_err-delete_numbers g c =
    let p = err_from_is_err_and c.from_residual.result c.from_residual.ensures.1 in
    let old = c.args.conn.now in
    let last = state g.S.Store c.delete_numbers.new.tx.conn.now in
    let end = c.drop-tx.new.self.0 in
    let test = goes (c.args.numbers ∷ []) in
    let begins : c.transaction-tx.result.conn.now ≡ record old { in_transaction = true } = c.transaction-tx.ensures.begun in
    let same : end ≡ c.conn-1.given.0 = search rules in
    let fault = c.in_err-delete_numbers.field-0.0 in
    rw (p.1, p.2) (record {
      clears = subst (λ h. Clears {T = Unit {0}} (rows_without test) (IsWithoutSome test) (state g.S.Store old) (state g.S.Store h) (Err fault)) same
          (clears_nothing g.S.Store (rows_without test) (IsWithoutSome test) (none_is_some test) old last (state g.S.Store end) (c.is_autocommit-is_idle.ensures.settled (c.is_autocommit-is_idle.ensures.value ∙ ap not c.requires.idle)) fault
          (rw begins at c.in_err-delete_numbers.ensures.deletes) c.drop-tx.ensures.ended c.drop-tx.ensures.undone c.drop-tx.ensures.survives);
    })

pub returns : goal.returns
returns g c =
    let old = c.args.conn.now in
    let last = state g.S.Store c.delete_numbers.new.tx.conn.now in
    let end = c.commit.new.tx.0 in
    let test = goes (c.args.numbers ∷ []) in
    let begins : c.transaction-tx.result.conn.now ≡ record old { in_transaction = true } = c.transaction-tx.ensures.begun in
    let same : end ≡ c.conn-2-1.given.0 = search rules in
    record {
      clears = subst (λ h. Clears (rows_without test) (IsWithoutSome test) (state g.S.Store old) (state g.S.Store h) c.commit.result) same
          (clears_batch g.S.Store (rows_without test) (IsWithoutSome test) (none_is_some test) old last (state g.S.Store end) (c.is_autocommit-is_idle.ensures.settled (c.is_autocommit-is_idle.ensures.value ∙ ap not c.requires.idle)) _ c.commit.result
          (whole_is_some test) (rw begins at c.in_ok-delete_numbers.ensures.deletes) c.commit.ensures.was_open c.commit.ensures.err c.commit.ensures.survives c.commit.ensures.ended c.commit.ensures.ok (λ is_open db left. g.met.S.Store.settled end.store db is_open left) c.commit.ensures.fault);
    }
