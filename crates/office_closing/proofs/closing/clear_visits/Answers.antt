use Rattle.std.proofs.{Common.{◌≡◌, ◌++◌, [], not, ap, ap₂, refl, append_assoc, ◌∙◌}, lemmas.List.take-append-drop, lemmas.Result.err_from_is_err_and}
use Rattle.office_closing.{specs.{Clearing.IsWithoutSomeVisits, Deleting.{all_but, without_visits}}, proofs.ClearLemmas.clears_none}
use Rattle.office_closing.proofs.NumberLemmas.{visits_cleared, visits_failed, without_none}
use Rattle.office_closing.proofs.closing.clear_visits.Goals as goal

pub loop-rest-init : goal.loop-rest-init
loop-rest-init g c =
    let old = c.args.conn.now in (
      [],
      refl,
      clears_none (IsWithoutSomeVisits (all_but c.args.visits.now)) g.S.Store (without_visits []) old c.requires.idle (c.is_autocommit-is_idle.ensures.settled (c.is_autocommit-is_idle.ensures.value ∙ ap not c.requires.idle))
          (λ is_open db left. g.met.S.Store.settled old.store db is_open left) without_none,
    )

pub returns-in_err-clear_visit_batch : goal.returns-in_err-clear_visit_batch
returns-in_err-clear_visit_batch g c =
    let p = err_from_is_err_and c.from_residual.result c.from_residual.ensures.1 in
    let before = c.loop-rest.invariant in
    let batch = c.split_at.result.0.now in
    let behind = c.split_at.result.1.now in
    let whole : batch ++ behind ≡ c.loop-rest.rest.now = ap₂ ◌++◌ c.split_at.ensures.front c.split_at.ensures.back ∙ take-append-drop _ c.loop-rest.rest.now in
    let parted : (before.0 ++ batch) ++ behind ≡ c.args.visits.now = append_assoc before.0 batch behind ∙ ap (λ l. before.0 ++ l) whole ∙ before.1 in
    rw (p.1, p.2) (record { clears = visits_failed before.0 batch behind c.args.visits.now parted _ _ _ _ _ before.2 c.in_err-clear_visit_batch.ensures.clears })

pub loop-rest-preserved : goal.loop-rest-preserved
loop-rest-preserved g c =
    let before = c.loop-rest.invariant in
    let batch = c.split_at.result.0.now in
    let behind = c.split_at.result.1.now in
    let whole : batch ++ behind ≡ c.loop-rest.rest.now = ap₂ ◌++◌ c.split_at.ensures.front c.split_at.ensures.back ∙ take-append-drop _ c.loop-rest.rest.now in
    let parted : (before.0 ++ batch) ++ behind ≡ c.args.visits.now = append_assoc before.0 batch behind ∙ ap (λ l. before.0 ++ l) whole ∙ before.1 in
    (before.0 ++ batch, parted, visits_cleared before.0 batch behind c.args.visits.now parted _ _ _ _ _ before.2 c.in_ok-clear_visit_batch.ensures.clears)
