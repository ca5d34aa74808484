use Rattle.std.proofs.{Common.{◌≡◌, inl, inr, None, Some, option_map, string_bytes, refl, sym, ap, subst}, lemmas.Result.err_from_is_err_and}
use Rattle.sqlite.specs.Held.{state}
use Rattle.office_rows.specs.Stored.{HasRows}
use Rattle.office_tables.{specs.Answers.IsKept, proofs.{WritesLemmas.of_store_weaker, MadeLemmas.{clean_first, reads_on, reads_stopped, ◌then◌}}}
use Rattle.office_desk.{specs.Reports.answered, proofs.Faults.{told_kept, told_nothing}}
use Rattle.office_desk.proofs.answers.tell_reply.Goals as goal

pub returns-in_ok-tell_kept-in-Some-clause-told : goal.returns-in_ok-tell_kept-in-Some-clause-told
returns-in_ok-tell_kept-in-Some-clause-told g c clean rows has once =
    let a = c.args in
    let is : c.in_ok-kept.field-0 ≡ Some c.in-Some.kept = let f = c.in-Some.is in cc in
    let before = clean_first c.next_of.ensures.reads clean in
    let there : HasRows rows (state g.S.Store c.kept.new.conn).now = subst (HasRows rows) (sym (c.in_ok-kept.ensures.reads.unchanged before).0.now_is) has in
    let next = c.in_ok-next-in-Some.next in (
      Some (answered a.code.now a.number next (option_map string_bytes c.in-Some.kept.reply)),
      told_kept rows a.partner a.number once a.code.now c.in-Some.kept next (subst (IsKept a.partner a.number rows) is (c.in_ok-kept.ensures.answer before rows has))
          (c.in_ok-next-in-Some.ensures.answer clean rows there),
      ap Some c.in_ok-tell_kept-in-Some.ensures,
    )

pub returns-in-None-clause-told : goal.returns-in-None-clause-told
returns-in-None-clause-told g c clean rows has once =
    let a = c.args in
    let is : c.in_ok-kept.field-0 ≡ None = let f = c.in-None.is in cc in
    (None, told_nothing rows a.partner a.number once a.code.now (subst (IsKept a.partner a.number rows) is (c.in_ok-kept.ensures.answer clean rows has)), refl)

-- ---- two reads

pub returns-in_ok-tell_kept-in-Some-clause-reads : goal.returns-in_ok-tell_kept-in-Some-clause-reads
returns-in_ok-tell_kept-in-Some-clause-reads g c = reads_on _ (c.in_ok-kept.ensures.reads then c.in_ok-next-in-Some.ensures.reads)

pub returns-in_err-tell_kept-in-Some-clause-reads : goal.returns-in_err-tell_kept-in-Some-clause-reads
returns-in_err-tell_kept-in-Some-clause-reads g c = reads_on _ (c.in_ok-kept.ensures.reads then c.in_ok-next-in-Some.ensures.reads)

pub returns-in_err-next-in-Some-clause-reads : goal.returns-in_err-next-in-Some-clause-reads
returns-in_err-next-in-Some-clause-reads g c = c.in_ok-kept.ensures.reads then reads_stopped _ c.from_residual-in_err-next-in-Some.ensures.0 c.next_of.ensures.reads

-- ---- why it can't be reported

pub returns-in_err-kept-clause-fault : goal.returns-in_err-kept-clause-fault
returns-in_err-kept-clause-fault g c clean =
    let p = err_from_is_err_and c.from_residual.result c.from_residual.ensures.1 in
    rw (p.1, p.2) (λ rows has. of_store_weaker _ _ inl _ (c.in_err-kept.ensures.fault clean rows has))

pub returns-in_err-next-in-Some-clause-fault : goal.returns-in_err-next-in-Some-clause-fault
returns-in_err-next-in-Some-clause-fault g c clean =
    let p = err_from_is_err_and c.from_residual-in_err-next-in-Some.result c.from_residual-in_err-next-in-Some.ensures.1 in
    let before = clean_first c.next_of.ensures.reads clean in
    rw (p.1, p.2) (λ rows has.
    of_store_weaker _ _ inr _
    (c.in_err-next-in-Some.ensures.fault clean rows (subst (HasRows rows) (sym (c.in_ok-kept.ensures.reads.unchanged before).0.now_is) has)))
