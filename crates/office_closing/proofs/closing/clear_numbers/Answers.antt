use Rattle.std.proofs.{Common.{inl, inr, [], ◌∷◌, not, ap, refl, ◌∙◌, arith}, lemmas.Result.err_from_is_err_and}
use Rattle.office_parts.specs.LeftOver.{rows_without}
use Rattle.office_closing.{specs.{Clearing.IsWithoutSome, Deleting.goes}, proofs.ClearLemmas.clears_none}
use Rattle.office_closing.proofs.NumberLemmas.{batch_cleared, batch_failed, numbers_cleared, numbers_to, deleted_none, goes_none}
use Rattle.office_closing.proofs.closing.clear_numbers.Goals as goal

pub loop-from-init : goal.loop-from-init
loop-from-init g c =
    let old = c.args.conn.now in
    let numbers = c.args.numbers in
    record {
      above = omega arith;
      within = inr refl;
      clears = clears_none (IsWithoutSome (goes (numbers ∷ []))) g.S.Store (rows_without (goes (numbers_to numbers numbers.from ∷ []))) old c.requires.idle (c.is_autocommit-is_idle.ensures.settled (c.is_autocommit-is_idle.ensures.value ∙ ap not c.requires.idle))
          (λ is_open db left. g.met.S.Store.settled old.store db is_open left) (deleted_none (goes (numbers_to numbers numbers.from ∷ [])) (goes_none numbers));
    }

pub returns-in_err-clear_batch : goal.returns-in_err-clear_batch
returns-in_err-clear_batch g c =
    let p = err_from_is_err_and c.from_residual.result c.from_residual.ensures.1 in
    let before = c.loop-from.invariant in
    rw (p.1, p.2) (record {
      clears = batch_failed c.args.numbers c.loop-from.from c.batch_end-to.result before.above (omega (arith, c.batch_end-to.ensures.above)) c.batch_end-to.ensures.within _ _ _ _ _ before.clears c.in_err-clear_batch.ensures.clears;
    })

pub loop-from-preserved : goal.loop-from-preserved
loop-from-preserved g c =
    let before = c.loop-from.invariant in
    record {
      above = omega (arith, before.above, c.batch_end-to.ensures.above);
      within = inl c.batch_end-to.ensures.within;
      clears = batch_cleared c.args.numbers c.loop-from.from c.batch_end-to.result before.above (omega (arith, c.batch_end-to.ensures.above)) c.batch_end-to.ensures.within _ _ _ _ _ before.clears c.in_ok-clear_batch.ensures.clears;
    }

pub returns : goal.returns
returns g c =
    let before = c.loop-from.invariant in
    record { clears = numbers_cleared c.args.numbers c.loop-from.from _ _ _ before.above (omega arith) before.within before.clears }
