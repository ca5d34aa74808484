use Rattle.std.proofs.Common.{inl, inr, refl, sym, subst, arith}
use Rattle.office_closing.{specs.Waiting.HaveNexts, proofs.{FileLemmas.fault_of_more, JudgeLemmas.{if_open_err, if_open_ok}, WaitingLemmas.many_accounts}}
use Rattle.office_closing.proofs.judging.waited_for.Goals as goal

pub returns-in-Ok-clause-named : goal.returns-in-Ok-clause-named
returns-in-Ok-clause-named g c clean rows has nexts = c.in-Ok.ensures.named clean rows has (subst (HaveNexts rows) (sym c.deref.ensures.value) nexts)

pub returns-in-Ok-clause-read : goal.returns-in-Ok-clause-read
returns-in-Ok-clause-read g c = if_open_ok _ c.in-Ok.ensures.reads

pub returns-in-Err-clause-read : goal.returns-in-Err-clause-read
returns-in-Err-clause-read g c = if_open_err _ c.in-Err.ensures.reads

pub returns-then-len-gt-MOST_PARTNERS-clause-fault : goal.returns-then-len-gt-MOST_PARTNERS-clause-fault
returns-then-len-gt-MOST_PARTNERS-clause-fault g c clean =
    rw c.of_store.ensures (λ rows has have. (refl, inl (omega (arith, c.if-len-gt-MOST_PARTNERS.true, c.len.ensures, many_accounts rows c.args.own.now.nexts.items have))))

pub returns-in-Err-clause-fault : goal.returns-in-Err-clause-fault
returns-in-Err-clause-fault g c clean =
    rw c.of_store-in-Err.ensures (λ rows has have. (refl, fault_of_more inr _ (c.in-Err.ensures.fault clean rows has (subst (HaveNexts rows) (sym c.deref.ensures.value) have))))
