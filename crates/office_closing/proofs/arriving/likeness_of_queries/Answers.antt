use Rattle.std.proofs.{Common.{Ok, None, Some, option_copied, subst}, lemmas.Result.err_from_is_err_and}
use Rattle.sqlite.specs.Given.{row_if}
use Rattle.office_loading.specs.Closed.{last_closed}
use Rattle.office_closing.{specs.Arriving.TellsRows, proofs.FileLemmas.{of_copy, of_own}}
use Rattle.office_closing.proofs.ArrivingLemmas.{goes_on, no_damage, none_shown, on_any, on_clean, on_failed, on_none, on_then, told_by}
use Rattle.office_closing.proofs.arriving.likeness_of_queries.Goals as goal

pub each-init : goal.each-init
each-init g c = record {
  own = on_none g.S.Store c.args.own.now (Ok tt);
  copy = on_none g.A.Store c.args.copy.now (Ok tt);
  same = λ here there. none_shown g.S.Store g.A.Store (last_closed c.args.closed.now) c.args.own.now.conn.now c.args.copy.now.conn.now;
}

-- ---- the store's rows could not be read

pub returns-in_err-advance-clause-own : goal.returns-in_err-advance-clause-own
returns-in_err-advance-clause-own g c =
    on_then g.S.Store c.args.own.now c.each.own c.advance.new.rows tt c.from_residual.result c.each.invariant.own
    (on_failed g.S.Store c.each.own c.advance.new.rows c.in_err-advance.field-0.0 c.from_residual.result c.from_residual.ensures.0 c.in_err-advance.ensures.read)

pub returns-in_err-advance-clause-copy : goal.returns-in_err-advance-clause-copy
returns-in_err-advance-clause-copy g c = on_any g.A.Store c.args.copy.now c.each.copy tt c.from_residual.result c.each.invariant.copy

-- ---- the archive's rows could not be read

pub returns-in_err-advance-2-clause-own : goal.returns-in_err-advance-2-clause-own
returns-in_err-advance-2-clause-own g c =
    on_then g.S.Store c.args.own.now c.each.own c.advance.new.rows tt c.from_residual-in_err-advance-2.result c.each.invariant.own
    (on_any g.S.Store c.each.own c.advance.new.rows tt c.from_residual-in_err-advance-2.result c.in_ok-advance.ensures.read)

pub returns-in_err-advance-2-clause-copy : goal.returns-in_err-advance-2-clause-copy
returns-in_err-advance-2-clause-copy g c =
    on_then g.A.Store c.args.copy.now c.each.copy c.advance-in-each.new.rows tt c.from_residual-in_err-advance-2.result c.each.invariant.copy
    (on_failed g.A.Store c.each.copy c.advance-in-each.new.rows c.in_err-advance-2.field-0.0 c.from_residual-in_err-advance-2.result c.from_residual-in_err-advance-2.ensures.0 c.in_err-advance-2.ensures.read)

-- ---- both were read

pub returns-in-Some-clause-own : goal.returns-in-Some-clause-own
returns-in-Some-clause-own g c =
    on_then g.S.Store c.args.own.now c.each.own c.advance.new.rows tt (Ok c.in-Some.told) c.each.invariant.own (on_any g.S.Store c.each.own c.advance.new.rows tt (Ok c.in-Some.told) c.in_ok-advance.ensures.read)

pub returns-in-Some-clause-copy : goal.returns-in-Some-clause-copy
returns-in-Some-clause-copy g c =
    on_then g.A.Store c.args.copy.now c.each.copy c.advance-in-each.new.rows tt (Ok c.in-Some.told) c.each.invariant.copy (on_any g.A.Store c.each.copy c.advance-in-each.new.rows tt (Ok c.in-Some.told) c.in_ok-advance-2.ensures.read)

pub returns-in-Some-clause-compared : goal.returns-in-Some-clause-compared
returns-in-Some-clause-compared g c here there =
    let own_before = on_clean g.S.Store c.each.own c.advance.new.rows _ c.in_ok-advance.ensures.read here in
    let copy_before = on_clean g.A.Store c.each.copy c.advance-in-each.new.rows _ c.in_ok-advance-2.ensures.read there in
    let kept = row_if c.advance.new.rows.has_row c.advance.new.rows.conn.now in
    let copied = row_if c.advance-in-each.new.rows.has_row c.advance-in-each.new.rows.conn.now in
    let tells = subst (λ o. TellsRows o copied (Some c.in-Some.told)) c.get.ensures (subst (λ o. TellsRows (option_copied c.get.result) o (Some c.in-Some.told)) c.get-in-each.ensures (rw c.in-Some.is at c.likeness_at.ensures)) in
    told_by g.S.Store g.A.Store (last_closed c.args.closed.now) c.args.own.now c.each.own c.advance.new.rows c.args.copy.now c.each.copy c.advance-in-each.new.rows c.each.invariant.own own_before c.each.invariant.copy copy_before (c.each.invariant.same own_before copy_before)
    kept copied c.in-Some.told tells (c.in_ok-advance.ensures.goes here) (c.in_ok-advance-2.ensures.goes there)

pub each-preserved : goal.each-preserved
each-preserved g c =
    let kept = row_if c.advance.new.rows.has_row c.advance.new.rows.conn.now in
    let copied = row_if c.advance-in-each.new.rows.has_row c.advance-in-each.new.rows.conn.now in
    let tells = subst (λ o. TellsRows o copied None) c.get.ensures (subst (λ o. TellsRows (option_copied c.get.result) o None) c.get-in-each.ensures (rw c.in_default.is at c.likeness_at.ensures)) in
    record {
      own = on_then g.S.Store c.args.own.now c.each.own c.advance.new.rows tt (Ok tt) c.each.invariant.own (on_any g.S.Store c.each.own c.advance.new.rows tt (Ok tt) c.in_ok-advance.ensures.read);
      copy = on_then g.A.Store c.args.copy.now c.each.copy c.advance-in-each.new.rows tt (Ok tt) c.each.invariant.copy (on_any g.A.Store c.each.copy c.advance-in-each.new.rows tt (Ok tt) c.in_ok-advance-2.ensures.read);
      same = λ here there.
          let own_before = on_clean g.S.Store c.each.own c.advance.new.rows _ c.in_ok-advance.ensures.read here in
          let copy_before = on_clean g.A.Store c.each.copy c.advance-in-each.new.rows _ c.in_ok-advance-2.ensures.read there in
          goes_on g.S.Store g.A.Store (last_closed c.args.closed.now) c.args.own.now c.each.own c.advance.new.rows c.args.copy.now c.each.copy c.advance-in-each.new.rows c.each.invariant.own own_before c.each.invariant.copy copy_before (c.each.invariant.same own_before copy_before)
          kept copied tells (c.in_ok-advance.ensures.goes here) (c.in_ok-advance-2.ensures.goes there);
    }

-- ---- there are more rows than are counted

pub returns-clause-own : goal.returns-clause-own
returns-clause-own g c = on_any g.S.Store c.args.own.now c.each.own tt _ c.each.invariant.own

pub returns-clause-copy : goal.returns-clause-copy
returns-clause-copy g c = on_any g.A.Store c.args.copy.now c.each.copy tt _ c.each.invariant.copy

-- ---- faults

pub returns-in_err-advance-clause-fault : goal.returns-in_err-advance-clause-fault
returns-in_err-advance-clause-fault g c =
    let p = err_from_is_err_and c.from_residual.result c.from_residual.ensures.1 in
    rw (p.1, p.2) (of_own ⊥ ⊥ c.in_err-advance.field-0.0 c.in_err-advance.ensures.file (no_damage _ c.in_err-advance.ensures.fault))

pub returns-in_err-advance-2-clause-fault : goal.returns-in_err-advance-2-clause-fault
returns-in_err-advance-2-clause-fault g c =
    let p = err_from_is_err_and c.from_residual-in_err-advance-2.result c.from_residual-in_err-advance-2.ensures.1 in
    rw (p.1, p.2) (of_copy ⊥ ⊥ c.in_err-advance-2.field-0.0 c.in_err-advance-2.ensures.file (no_damage _ c.in_err-advance-2.ensures.fault))

pub returns-clause-fault : goal.returns-clause-fault
returns-clause-fault g c = of_copy ⊥ ⊥ c.fault_in.result c.fault_in.ensures.file (no_damage _ c.fault_in.ensures.fault)
