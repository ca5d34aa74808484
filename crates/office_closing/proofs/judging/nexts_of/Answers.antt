use Rattle.std.proofs.Common.{◌≡◌, true, false, inl, inr, refl, sym, ap, ◌∙◌}
use Rattle.office_closing.{specs.Register.{is_newer_than, register_content}, proofs.{FileLemmas.fault_of_more, JudgeLemmas.{read_err, read_ok}}}
use Rattle.office_closing.proofs.judging.nexts_of.Goals as goal

-- The store still awaits a number that had been taken.
pub returns-in-Ok-clause-read : goal.returns-in-Ok-clause-read
returns-in-Ok-clause-read g c = read_err _ c.nexts.ensures.reads

pub returns-in-Ok-clause-fault : goal.returns-in-Ok-clause-fault
returns-in-Ok-clause-fault g c clean rows has =
    let names = register_content c.args.told.now in
    let newer = ap (λ nexts. is_newer_than nexts names) (sym c.deref.ensures.value) ∙ sym c.is_newer_than.ensures ∙ c.if-is_newer_than.true in
    (refl, inr (c.in-Ok.found.items, c.in-Ok.ensures.answer clean rows has, newer))

-- It awaits none.
pub returns-in-Ok-2-clause-read : goal.returns-in-Ok-2-clause-read
returns-in-Ok-2-clause-read g c = read_ok _ c.in-Ok-2.ensures.reads

pub returns-in-Ok-2-clause-of_day : goal.returns-in-Ok-2-clause-of_day
returns-in-Ok-2-clause-of_day g c =
    let names = register_content c.args.told.now in
    ap (λ nexts. is_newer_than nexts names) (sym c.deref.ensures.value) ∙ sym c.is_newer_than.ensures ∙ c.if-is_newer_than.false

pub returns-in-Err-clause-read : goal.returns-in-Err-clause-read
returns-in-Err-clause-read g c = read_err _ c.in-Err.ensures.reads

pub returns-in-Err-clause-fault : goal.returns-in-Err-clause-fault
returns-in-Err-clause-fault g c clean rows has = (refl, fault_of_more inl _ (c.in-Err.ensures.fault clean rows has))
