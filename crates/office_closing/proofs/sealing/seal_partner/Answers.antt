use Rattle.std.proofs.{Common.{◌≡◌, ◌+◌, [], ◌∷◌, true, Ok, fold, sym, subst, arith}, lemmas.Result.err_from_is_err_and}
use Rattle.sqlite.specs.Held.{state}
use Rattle.office_rows.specs.Stored.{HasRows}
use Rattle.office_tables.{specs.DeliveryReading.IsSame, proofs.WriteLemmas.{nothing_read, only_on, only_stopped, only_then, was_clean}}
use Rattle.office_closing.specs.{Deleting.is_among, Seals.{HoldsSealing, add_one, end_partner, kept_under}}
use Rattle.office_closing.proofs.{FileLemmas.{fault_of_more, is_among_one, unfit_one}, SealLemmas.{added_more, under_all, under_none, up_to}}
use Rattle.office_closing.proofs.sealing.seal_partner.Goals as goal

pub loop-number-init : goal.loop-number-init
loop-number-init g c = record {
  above = omega arith;
  within = omega arith;
  reads = nothing_read (state g.S.Store c.args.conn.now) (Ok tt);
  sealed = λ clean rows has once sealed holds. subst (λ l. HoldsSealing c.args.sealing.now (fold add_one sealed l)) (sym (under_none rows c.args.numbers)) holds;
}

pub loop-number-preserved : goal.loop-number-preserved
loop-number-preserved g c =
    let before = c.loop-number.invariant in
    let call = c.in_ok-seal_number.ensures in
    let numbers = c.args.numbers in
    let number = c.loop-number.number in
    record {
      above = omega (arith, before.above);
      within = omega (arith, before.above, before.within);
      reads = only_on (Ok tt) (only_then before.reads call.reads);
      sealed = λ clean rows has once sealed holds.
          let earlier = was_clean call.reads clean in
          let same : IsSame (state g.S.Store c.args.conn.now) (state g.S.Store c.loop-number.conn) = before.reads.same earlier in
          subst (HoldsSealing c.seal_number.new.sealing) (added_more rows numbers number sealed before.above)
          (call.seals clean rows (subst (HasRows rows) (sym same.now) has) once (fold add_one sealed (kept_under rows (up_to numbers number))) (before.sealed earlier rows has once sealed holds));
    }

pub returns-clause-seals : goal.returns-clause-seals
returns-clause-seals g c clean rows has once sealed holds =
    let it = c.loop-number.invariant in
    let numbers = c.args.numbers in
    let number = c.loop-number.number in
    subst (λ l. HoldsSealing c.end_partner.new.self (end_partner (fold add_one sealed l))) (under_all rows numbers number it.above it.within (omega arith))
    (c.in_ok-end_partner.ensures (fold add_one sealed (kept_under rows (up_to numbers number))) (it.sealed clean rows has once sealed holds))

pub returns-clause-reads : goal.returns-clause-reads
returns-clause-reads g c = only_on _ c.loop-number.invariant.reads

pub returns-in_err-seal_number-clause-reads : goal.returns-in_err-seal_number-clause-reads
returns-in_err-seal_number-clause-reads g c = only_stopped _ c.from_residual.ensures.0 (only_then c.loop-number.invariant.reads c.in_err-seal_number.ensures.reads)

pub returns-in_err-end_partner-clause-reads : goal.returns-in_err-end_partner-clause-reads
returns-in_err-end_partner-clause-reads g c = only_on _ c.loop-number.invariant.reads

pub returns-in_err-seal_number-clause-fault : goal.returns-in_err-seal_number-clause-fault
returns-in_err-seal_number-clause-fault g c clean =
    let p = err_from_is_err_and c.from_residual.result c.from_residual.ensures.1 in
    let before = c.loop-number.invariant in
    let call = c.in_err-seal_number.ensures in
    let numbers = c.args.numbers in
    let number = c.loop-number.number + 1 in
    let among : is_among (numbers ∷ []) numbers.partner number ≡ true = is_among_one numbers number (omega (arith, before.above)) (omega arith) in
    let same : IsSame (state g.S.Store c.args.conn.now) (state g.S.Store c.loop-number.conn) = before.reads.same (was_clean call.reads clean) in
    rw (p.1, p.2) (λ rows has. fault_of_more (unfit_one numbers number rows among) _ (call.fault clean rows (subst (HasRows rows) (sym same.now) has)))
