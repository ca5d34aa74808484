use Rattle.std.proofs.Common.{inl, inr, refl, sym, subst, ◌∙◌}
use Rattle.std.proofs.lemmas.Result.{err_from_is_err_and}
use Rattle.sqlite.specs.{Held.state, State.HasCleanDisk}
use Rattle.office_rows.specs.Stored.{HasRows}
use Rattle.office_tables.proofs.{WritesLemmas.of_store_weaker, MadeLemmas.{clean_first, reads_on, reads_stopped, ◌then◌}}
use Rattle.office_desk.proofs.accounts.look_up.Goals as goal

pub returns-clause-is : goal.returns-clause-is
returns-clause-is g c clean rows has =
    let before : HasCleanDisk (state g.S.Store c.next_of.new.conn) = clean_first c.waiting_numbers.ensures.reads clean in
    let there : HasRows rows (state g.S.Store c.next_of.new.conn).now = subst (HasRows rows) (sym (c.in_ok-next.ensures.reads.unchanged before).0.now_is) has in
    record {
      code = c.in_ok-code.ensures.ok ∙ c.as_str.ensures.value;
      kind = refl;
      next = c.in_ok-next.ensures.answer before rows has;
      waiting = c.in_ok-waiting.ensures.answer clean rows there;
    }

pub returns-clause-reads : goal.returns-clause-reads
returns-clause-reads g c = reads_on _ (c.in_ok-next.ensures.reads then c.in_ok-waiting.ensures.reads)

pub returns-in_err-waiting-clause-reads : goal.returns-in_err-waiting-clause-reads
returns-in_err-waiting-clause-reads g c = c.in_ok-next.ensures.reads then reads_stopped _ c.from_residual-in_err-waiting.ensures.0 c.waiting_numbers.ensures.reads

pub returns-in_err-code-clause-reads : goal.returns-in_err-code-clause-reads
returns-in_err-code-clause-reads g c = reads_on _ (c.in_ok-next.ensures.reads then c.in_ok-waiting.ensures.reads)

-- ---- why it can't be looked up

pub returns-in_err-next-clause-fault : goal.returns-in_err-next-clause-fault
returns-in_err-next-clause-fault g c clean =
    let p = err_from_is_err_and c.from_residual.result c.from_residual.ensures.1 in
    rw (p.1, p.2) (λ rows has. of_store_weaker _ _ inl _ (c.in_err-next.ensures.fault clean rows has))

pub returns-in_err-waiting-clause-fault : goal.returns-in_err-waiting-clause-fault
returns-in_err-waiting-clause-fault g c clean =
    let p = err_from_is_err_and c.from_residual-in_err-waiting.result c.from_residual-in_err-waiting.ensures.1 in
    let before : HasCleanDisk (state g.S.Store c.next_of.new.conn) = clean_first c.waiting_numbers.ensures.reads clean in
    rw (p.1, p.2) (λ rows has.
    of_store_weaker _ _ (λ high. inr (c.in_ok-next.next, high)) _
    (c.in_err-waiting.ensures.fault clean rows (subst (HasRows rows) (sym (c.in_ok-next.ensures.reads.unchanged before).0.now_is) has)))
