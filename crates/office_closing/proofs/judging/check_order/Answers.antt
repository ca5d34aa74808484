use Rattle.std.specs.Prelude.{ℕ, false, true}
use Rattle.std.proofs.Common.{◌≡◌, ap, sym, subst, ◌∙◌}
use Rattle.std.proofs.lemmas.Result.{err_from_is_err_and}
use Rattle.sqlite.specs.Held.{state}
use Rattle.office_loading.specs.Closed.{ClosedContent}
use Rattle.office_closing.{specs.{Arriving.HasTexts, Judging.WantsAll}, proofs.JudgeLemmas.{failed, passed, untouched_err}}
use Rattle.office_closing.proofs.judging.check_order.Goals as goal

pub returns-in_err-closed-clause-store_read : goal.returns-in_err-closed-clause-store_read
returns-in_err-closed-clause-store_read g c =
    let p = err_from_is_err_and c.from_residual.result c.from_residual.ensures.1 in
    rw (p.1, p.2) (untouched_err (state g.S.Store c.args.store.now) _)

pub returns-in_err-closed-clause-archive_read : goal.returns-in_err-closed-clause-archive_read
returns-in_err-closed-clause-archive_read g c =
    let p = err_from_is_err_and c.from_residual.result c.from_residual.ensures.1 in
    rw (p.1, p.2) (untouched_err (state g.A.Store c.args.archive.now) _)

pub returns-then-is_copied-clause-store_read : goal.returns-then-is_copied-clause-store_read
returns-then-is_copied-clause-store_read g c = passed tt c.in-Ok.ensures.store_read

pub returns-then-is_copied-clause-archive_read : goal.returns-then-is_copied-clause-archive_read
returns-then-is_copied-clause-archive_read g c = passed tt c.in-Ok.ensures.archive_read

pub returns-then-is_copied-clause-texts : goal.returns-then-is_copied-clause-texts
returns-then-is_copied-clause-texts g c here there rows copy has has' order order' =
    let told = (c.is_copied.ensures _ rows copy (c.in-Ok.ensures.told here there rows copy has has' order order')).0 c.if-is_copied.true in
    subst (λ (f : ℕ → ℕ). HasTexts (WantsAll c.args.plan.now) f rows copy) (ap (λ (k : ClosedContent). k.last_closed) c.in_ok-closed.ensures) told

pub returns-in-Ok-clause-store_read : goal.returns-in-Ok-clause-store_read
returns-in-Ok-clause-store_read g c = failed _ c.in-Ok.ensures.store_read

pub returns-in-Ok-clause-archive_read : goal.returns-in-Ok-clause-archive_read
returns-in-Ok-clause-archive_read g c = failed _ c.in-Ok.ensures.archive_read

pub returns-in-Ok-clause-fault : goal.returns-in-Ok-clause-fault
returns-in-Ok-clause-fault g c here there rows copy has has' order order' texts =
    let back = subst (λ (f : ℕ → ℕ). HasTexts (WantsAll c.args.plan.now) f rows copy) (sym (ap (λ (k : ClosedContent). k.last_closed) c.in_ok-closed.ensures)) texts in
    let told = (c.is_copied.ensures _ rows copy (c.in-Ok.ensures.told here there rows copy has has' order order')).1 back in
    absurd (let both : false ≡ true = sym c.if-is_copied.false ∙ told in cc)

pub returns-clause-store_read : goal.returns-clause-store_read
returns-clause-store_read g c = failed _ c.in-Err.ensures.store_read

pub returns-clause-archive_read : goal.returns-clause-archive_read
returns-clause-archive_read g c = failed _ c.in-Err.ensures.archive_read
