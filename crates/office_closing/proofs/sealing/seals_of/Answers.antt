use Rattle.std.proofs.{Common.{◌+◌, Ok, take, drop, sym, ap, subst, ◌∙◌}, lemmas.List.{take_more, take_all, take-append-drop}, lemmas.Result.err_from_is_err_and}
use Rattle.sqlite.specs.Held.{state}
use Rattle.office_rows.specs.Stored.{HasRows}
use Rattle.office_tables.{specs.DeliveryReading.IsSame, proofs.WriteLemmas.{nothing_read, only_on, only_stopped, only_then, was_clean}}
use Rattle.office_closing.{specs.Seals.{HoldsSealing, seals_of}, proofs.{FileLemmas.{fault_of_more, unfit_of_all}, SealLemmas.{sealed_more, so_far}}}
use Rattle.office_closing.proofs.sealing.seals_of.Goals as goal

pub loop-numbers-init : goal.loop-numbers-init
loop-numbers-init g c = record {
  reads = nothing_read (state g.S.Store c.args.conn.now) (Ok tt);
  sealed = λ clean rows has once. c.new-sealing.ensures;
}

pub loop-numbers-preserved : goal.loop-numbers-preserved
loop-numbers-preserved g c =
    let before = c.loop-numbers.invariant in
    let call = c.in_ok-seal_partner.ensures in
    let i = c.loop-numbers.numbers-index in
    let all = c.args.closing.now in
    record {
      reads = only_on (Ok tt) (only_then before.reads call.reads);
      sealed = λ clean rows has once.
          let earlier = was_clean call.reads clean in
          let same : IsSame (state g.S.Store c.args.conn.now) (state g.S.Store c.loop-numbers.conn) = before.reads.same earlier in
          subst (HoldsSealing c.seal_partner.new.sealing) (sealed_more rows (take i all) _ (take (i + 1) all) (take_more all i _ c.loop-numbers-test.true))
          (call.seals clean rows (subst (HasRows rows) (sym same.now) has) once (so_far rows (take i all)) (before.sealed earlier rows has once));
    }

pub returns-clause-seals : goal.returns-clause-seals
returns-clause-seals g c clean rows has once =
    let all = c.args.closing.now in
    c.into_seals.ensures (so_far rows (take c.loop-numbers.numbers-index all)) (c.loop-numbers.invariant.sealed clean rows has once)
    ∙ ap (seals_of rows) (take_all c.loop-numbers.numbers-index all c.loop-numbers-test.false)

pub returns-clause-reads : goal.returns-clause-reads
returns-clause-reads g c = only_on _ c.loop-numbers.invariant.reads

pub returns-in_err-seal_partner-clause-reads : goal.returns-in_err-seal_partner-clause-reads
returns-in_err-seal_partner-clause-reads g c = only_stopped _ c.from_residual.ensures.0 (only_then c.loop-numbers.invariant.reads c.in_err-seal_partner.ensures.reads)

pub returns-in_err-seal_partner-clause-fault : goal.returns-in_err-seal_partner-clause-fault
returns-in_err-seal_partner-clause-fault g c clean =
    let p = err_from_is_err_and c.from_residual.result c.from_residual.ensures.1 in
    let call = c.in_err-seal_partner.ensures in
    let i = c.loop-numbers.numbers-index in
    let all = c.args.closing.now in
    let same : IsSame (state g.S.Store c.args.conn.now) (state g.S.Store c.loop-numbers.conn) = c.loop-numbers.invariant.reads.same (was_clean call.reads clean) in
    rw (p.1, p.2) (λ rows has.
    fault_of_more (unfit_of_all (take i all) _ (take (i + 1) all) (drop (i + 1) all) all (take_more all i _ c.loop-numbers-test.true) (sym (take-append-drop (i + 1) all)) rows) _
    (call.fault clean rows (subst (HasRows rows) (sym same.now) has)))
