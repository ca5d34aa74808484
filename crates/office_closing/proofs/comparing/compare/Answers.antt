use Rattle.std.proofs.{Common.{◌+◌, take, drop, sym, ap, subst, ◌∙◌}, lemmas.List.{take_more, take_all, take-append-drop}, lemmas.Result.err_from_is_err_and}
use Rattle.sqlite.specs.Held.{state}
use Rattle.office_rows.specs.Stored.{HasRows}
use Rattle.office_tables.specs.DeliveryReading.{IsSame}
use Rattle.office_closing.{specs.{Deleting.is_among, Seals.{HoldsSealing, seals_of}}, proofs.{FileLemmas.{among_all, compared_more, either_more, unfit_of_all}, SealLemmas.{sealed_more, so_far}}}
use Rattle.office_closing.proofs.JudgeLemmas.{clean_before, if_open_after, if_open_after_failed, if_open_passed, none_read}
use Rattle.office_closing.proofs.comparing.compare.Goals as goal

pub loop-numbers-init : goal.loop-numbers-init
loop-numbers-init g c = record {
  store = none_read (state g.S.Store c.args.store.now) tt;
  archive = none_read (state g.A.Store c.args.archive.now) tt;
  alike = λ here there own copy own_has copy_has own_once copy_once partner number e. absurd cc;
  sealed = λ here there copy copy_has copy_once. c.new-sealing.ensures;
}

pub returns-in_err-difference-clause-fault : goal.returns-in_err-difference-clause-fault
returns-in_err-difference-clause-fault g c here there =
    let p = err_from_is_err_and c.from_residual.result c.from_residual.ensures.1 in
    let before = c.loop-numbers.invariant in
    let call = c.in_err-difference.ensures in
    let i = c.loop-numbers.numbers-index in
    let all = c.args.closing.now in
    let own_same : IsSame (state g.S.Store c.args.store.now) (state g.S.Store c.loop-numbers.store) = before.store.same (clean_before call.store_reads here) in
    let copy_same : IsSame (state g.A.Store c.args.archive.now) (state g.A.Store c.loop-numbers.archive) = before.archive.same (clean_before call.archive_reads there) in
    rw (p.1, p.2) (λ own copy own_has copy_has.
    either_more (unfit_of_all (take i all) _ (take (i + 1) all) (drop (i + 1) all) all (take_more all i _ c.loop-numbers-test.true) (sym (take-append-drop (i + 1) all)) own)
    (unfit_of_all (take i all) _ (take (i + 1) all) (drop (i + 1) all) all (take_more all i _ c.loop-numbers-test.true) (sym (take-append-drop (i + 1) all)) copy) _ _
    (call.fault here there own copy (subst (HasRows own) (sym own_same.now) own_has) (subst (HasRows copy) (sym copy_same.now) copy_has)))

pub returns-in-Some-clause-compared : goal.returns-in-Some-clause-compared
returns-in-Some-clause-compared g c here there own copy own_has copy_has own_once copy_once =
    let before = c.loop-numbers.invariant in
    let call = c.in_ok-difference.ensures in
    let i = c.loop-numbers.numbers-index in
    let all = c.args.closing.now in
    let own_same : IsSame (state g.S.Store c.args.store.now) (state g.S.Store c.loop-numbers.store) = before.store.same (clean_before call.store_reads here) in
    let copy_same : IsSame (state g.A.Store c.args.archive.now) (state g.A.Store c.loop-numbers.archive) = before.archive.same (clean_before call.archive_reads there) in
    let told = rw c.in-Some.is at (call.compared here there own copy (subst (HasRows own) (sym own_same.now) own_has) (subst (HasRows copy) (sym copy_same.now) copy_has) own_once copy_once) in
    (among_all (take i all) _ (take (i + 1) all) (take_more all i _ c.loop-numbers-test.true) _ _ (drop (i + 1) all) all (sym (take-append-drop (i + 1) all)) told.0, told.1)

pub loop-numbers-preserved : goal.loop-numbers-preserved
loop-numbers-preserved g c =
    let before = c.loop-numbers.invariant in
    let call = c.in_ok-difference.ensures in
    let i = c.loop-numbers.numbers-index in
    let all = c.args.closing.now in
    record {
      store = if_open_after _ before.store call.store_reads;
      archive = if_open_after _ before.archive call.archive_reads;
      alike = λ here there own copy own_has copy_has own_once copy_once.
          let earlier = clean_before call.store_reads here in
          let earlier' = clean_before call.archive_reads there in
          let own_same : IsSame (state g.S.Store c.args.store.now) (state g.S.Store c.loop-numbers.store) = before.store.same earlier in
          let copy_same : IsSame (state g.A.Store c.args.archive.now) (state g.A.Store c.loop-numbers.archive) = before.archive.same earlier' in
          let told = rw c.in_default.is at (call.compared here there own copy (subst (HasRows own) (sym own_same.now) own_has) (subst (HasRows copy) (sym copy_same.now) copy_has) own_once copy_once) in
          compared_more (take i all) _ (take (i + 1) all) (take_more all i _ c.loop-numbers-test.true) own copy (before.alike earlier earlier' own copy own_has copy_has own_once copy_once) told;
      sealed = λ here there copy copy_has copy_once.
          let earlier = clean_before call.store_reads here in
          let earlier' = clean_before call.archive_reads there in
          let same : IsSame (state g.A.Store c.args.archive.now) (state g.A.Store c.loop-numbers.archive) = before.archive.same earlier' in
          subst (HoldsSealing c.compare_numbers.new.sealing) (sealed_more copy (take i all) _ (take (i + 1) all) (take_more all i _ c.loop-numbers-test.true))
          (call.sealed here there c.in_default.is copy (subst (HasRows copy) (sym same.now) copy_has) copy_once (so_far copy (take i all)) (before.sealed earlier earlier' copy copy_has copy_once));
    }

pub returns-clause-compared : goal.returns-clause-compared
returns-clause-compared g c here there own copy own_has copy_has own_once copy_once partner number e =
    let all = c.args.closing.now in
    c.loop-numbers.invariant.alike here there own copy own_has copy_has own_once copy_once partner number (ap (λ l. is_among l partner number) (take_all c.loop-numbers.numbers-index all c.loop-numbers-test.false) ∙ e)

pub returns-clause-sealed : goal.returns-clause-sealed
returns-clause-sealed g c here there copy copy_has copy_once =
    let all = c.args.closing.now in
    c.into_seals.ensures (so_far copy (take c.loop-numbers.numbers-index all)) (c.loop-numbers.invariant.sealed here there copy copy_has copy_once)
    ∙ ap (seals_of copy) (take_all c.loop-numbers.numbers-index all c.loop-numbers-test.false)

pub returns-in_err-difference-clause-store_reads : goal.returns-in_err-difference-clause-store_reads
returns-in_err-difference-clause-store_reads g c =
    let p = err_from_is_err_and c.from_residual.result c.from_residual.ensures.1 in
    rw (p.1, p.2) (if_open_after_failed _ c.loop-numbers.invariant.store c.in_err-difference.ensures.store_reads)

pub returns-in_err-difference-clause-archive_reads : goal.returns-in_err-difference-clause-archive_reads
returns-in_err-difference-clause-archive_reads g c =
    let p = err_from_is_err_and c.from_residual.result c.from_residual.ensures.1 in
    rw (p.1, p.2) (if_open_after_failed _ c.loop-numbers.invariant.archive c.in_err-difference.ensures.archive_reads)

pub returns-in-Some-clause-store_reads : goal.returns-in-Some-clause-store_reads
returns-in-Some-clause-store_reads g c = if_open_after _ c.loop-numbers.invariant.store c.in_ok-difference.ensures.store_reads

pub returns-in-Some-clause-archive_reads : goal.returns-in-Some-clause-archive_reads
returns-in-Some-clause-archive_reads g c = if_open_after _ c.loop-numbers.invariant.archive c.in_ok-difference.ensures.archive_reads

pub returns-clause-store_reads : goal.returns-clause-store_reads
returns-clause-store_reads g c = if_open_passed _ c.loop-numbers.invariant.store

pub returns-clause-archive_reads : goal.returns-clause-archive_reads
returns-clause-archive_reads g c = if_open_passed _ c.loop-numbers.invariant.archive
