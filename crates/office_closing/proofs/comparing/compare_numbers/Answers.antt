use Rattle.std.proofs.{Common.{◌≡◌, ◌+◌, [], ◌∷◌, inl, inr, true, fold, sym, subst, arith}, lemmas.Bool.cases_order, lemmas.Result.err_from_is_err_and}
use Rattle.sqlite.specs.Held.{state}
use Rattle.office_rows.specs.Stored.{HasRows}
use Rattle.office_tables.specs.DeliveryReading.{IsSame}
use Rattle.office_closing.specs.{Comparing.IsToldAlike, Deleting.is_among, Seals.{HoldsSealing, add_one, end_partner, kept_under}}
use Rattle.office_closing.proofs.{FileLemmas.{among_parts, either_more, is_among_one, unfit_one}, SealLemmas.{added_more, on_ok_is, under_all, under_none, up_to}}
use Rattle.office_closing.proofs.JudgeLemmas.{if_open_after, if_open_after_failed, if_open_failed, if_open_passed, none_read, read_clean, read_if_open}
use Rattle.office_closing.proofs.comparing.compare_numbers.Goals as goal

pub loop-number-init : goal.loop-number-init
loop-number-init g c = record {
  above = omega arith;
  within = omega arith;
  store = none_read (state g.S.Store c.args.store.now) _;
  archive = none_read (state g.A.Store c.args.archive.now) _;
  alike = λ here there own copy own_has copy_has own_once copy_once number above within. absurd (omega (arith, above, within));
  sealed = λ here there copy has once sealed holds. subst (λ l. HoldsSealing c.args.sealing.now (fold add_one sealed l)) (sym (under_none copy c.args.numbers)) holds;
}

pub loop-number-preserved : goal.loop-number-preserved
loop-number-preserved g c =
    let before = c.loop-number.invariant in
    let call = c.in_ok-is_kept_alike.ensures in
    let yes : c.in_ok-is_kept_alike.field-0 ≡ true = c.if-not-branch.false in
    record {
      above = omega (arith, before.above);
      within = omega (arith, before.above, before.within);
      store = if_open_after _ before.store (read_if_open call.store_reads);
      archive = if_open_after _ before.archive (read_if_open call.archive_reads);
      alike = λ here there own copy own_has copy_has own_once copy_once number above within.
          let earlier = read_clean call.store_reads here in
          let earlier' = read_clean call.archive_reads there in
          let own_same : IsSame (state g.S.Store c.args.store.now) (state g.S.Store c.loop-number.store) = before.store.same earlier in
          let copy_same : IsSame (state g.A.Store c.args.archive.now) (state g.A.Store c.loop-number.archive) = before.archive.same earlier' in
          let newest = (call.alike here there own copy (subst (HasRows own) (sym own_same.now) own_has) (subst (HasRows copy) (sym copy_same.now) copy_has) own_once copy_once).0 yes in
          elim (cases_order number (c.loop-number.number + 1)) [
            | inl same ↦ subst (λ n. IsToldAlike c.args.numbers.partner n own copy) (sym same) newest
            | inr o ↦ elim o [
              | inl less ↦ before.alike earlier earlier' own copy own_has copy_has own_once copy_once number above (omega (arith, less))
              | inr more ↦ absurd (omega (arith, more, within))
            ]
          ];
      sealed = λ here there copy has once sealed holds.
          let earlier = read_clean call.store_reads here in
          let earlier' = read_clean call.archive_reads there in
          let same : IsSame (state g.A.Store c.args.archive.now) (state g.A.Store c.loop-number.archive) = before.archive.same earlier' in
          let numbers = c.args.numbers in
          let number = c.loop-number.number in
          subst (HoldsSealing c.is_kept_alike.new.sealing) (added_more copy numbers number sealed before.above)
          (call.sealed here there yes copy (subst (HasRows copy) (sym same.now) has) once (fold add_one sealed (kept_under copy (up_to numbers number))) (before.sealed earlier earlier' copy has once sealed holds));
    }

pub returns-clause-compared : goal.returns-clause-compared
returns-clause-compared g c here there own copy own_has copy_has own_once copy_once partner number e =
    let parts = among_parts c.args.numbers partner number e in
    subst (λ p. IsToldAlike p number own copy) (sym parts.0) (c.loop-number.invariant.alike here there own copy own_has copy_has own_once copy_once number parts.1 (omega (arith, parts.2)))

pub returns-clause-sealed : goal.returns-clause-sealed
returns-clause-sealed g c here there none copy has once sealed holds =
    let it = c.loop-number.invariant in
    let numbers = c.args.numbers in
    let number = c.loop-number.number in
    let ended = on_ok_is c.end_partner.result c.end_partner.ensures c.in_ok-sealed_in_memory.ensures.ok in
    subst (λ l. HoldsSealing c.end_partner.new.self (end_partner (fold add_one sealed l))) (under_all copy numbers number it.above it.within (omega arith))
    (ended (fold add_one sealed (kept_under copy (up_to numbers number))) (it.sealed here there copy has once sealed holds))

pub returns-in_err-sealed_in_memory-clause-fault : goal.returns-in_err-sealed_in_memory-clause-fault
returns-in_err-sealed_in_memory-clause-fault g c here there =
    let p = err_from_is_err_and c.from_residual-in_err-sealed_in_memory.result c.from_residual-in_err-sealed_in_memory.ensures.1 in
    rw (p.1, p.2) (λ own copy own_has copy_has. either_more absurd absurd _ _ c.in_err-sealed_in_memory.ensures.fault)

pub returns-in_err-sealed_in_memory-clause-store_reads : goal.returns-in_err-sealed_in_memory-clause-store_reads
returns-in_err-sealed_in_memory-clause-store_reads g c =
    let p = err_from_is_err_and c.from_residual-in_err-sealed_in_memory.result c.from_residual-in_err-sealed_in_memory.ensures.1 in
    rw (p.1, p.2) (if_open_failed _ c.loop-number.invariant.store)

pub returns-in_err-sealed_in_memory-clause-archive_reads : goal.returns-in_err-sealed_in_memory-clause-archive_reads
returns-in_err-sealed_in_memory-clause-archive_reads g c =
    let p = err_from_is_err_and c.from_residual-in_err-sealed_in_memory.result c.from_residual-in_err-sealed_in_memory.ensures.1 in
    rw (p.1, p.2) (if_open_failed _ c.loop-number.invariant.archive)

pub returns-in_err-is_kept_alike-clause-store_reads : goal.returns-in_err-is_kept_alike-clause-store_reads
returns-in_err-is_kept_alike-clause-store_reads g c =
    let p = err_from_is_err_and c.from_residual.result c.from_residual.ensures.1 in
    rw (p.1, p.2) (if_open_after_failed _ c.loop-number.invariant.store (read_if_open c.in_err-is_kept_alike.ensures.store_reads))

pub returns-in_err-is_kept_alike-clause-archive_reads : goal.returns-in_err-is_kept_alike-clause-archive_reads
returns-in_err-is_kept_alike-clause-archive_reads g c =
    let p = err_from_is_err_and c.from_residual.result c.from_residual.ensures.1 in
    rw (p.1, p.2) (if_open_after_failed _ c.loop-number.invariant.archive (read_if_open c.in_err-is_kept_alike.ensures.archive_reads))

pub returns-in_err-is_kept_alike-clause-fault : goal.returns-in_err-is_kept_alike-clause-fault
returns-in_err-is_kept_alike-clause-fault g c here there =
    let p = err_from_is_err_and c.from_residual.result c.from_residual.ensures.1 in
    let before = c.loop-number.invariant in
    let call = c.in_err-is_kept_alike.ensures in
    let numbers = c.args.numbers in
    let number = c.loop-number.number + 1 in
    let among : is_among (numbers ∷ []) numbers.partner number ≡ true = is_among_one numbers number (omega (arith, before.above)) (omega arith) in
    let own_same : IsSame (state g.S.Store c.args.store.now) (state g.S.Store c.loop-number.store) = before.store.same (read_clean call.store_reads here) in
    let copy_same : IsSame (state g.A.Store c.args.archive.now) (state g.A.Store c.loop-number.archive) = before.archive.same (read_clean call.archive_reads there) in
    rw (p.1, p.2) (λ own copy own_has copy_has.
    either_more (unfit_one numbers number own among) (unfit_one numbers number copy among) _ _
    (call.fault here there own copy (subst (HasRows own) (sym own_same.now) own_has) (subst (HasRows copy) (sym copy_same.now) copy_has)))

pub returns-clause-store_reads : goal.returns-clause-store_reads
returns-clause-store_reads g c = if_open_passed _ c.loop-number.invariant.store

pub returns-clause-archive_reads : goal.returns-clause-archive_reads
returns-clause-archive_reads g c = if_open_passed _ c.loop-number.invariant.archive
