use Rattle.std.proofs.Common.{ℕ, length, Option, None, Some, inl, string_bytes, refl, sym, ap, subst, ◌∙◌, arith}
use Rattle.std.proofs.lemmas.List.{length-map}
use Rattle.std.proofs.lemmas.Result.{err_from_is_err_and}
use Rattle.office_admission.specs.Parties.{partner_codes}
use Rattle.office_admission.specs.declared.setup.Account.{Account}
use Rattle.office_admission.specs.Setups.{account_contents}
use Rattle.office_admission.proofs.Adding.{found_low}
use Rattle.office_tables.{specs.Answers.LacksNext, proofs.WritesLemmas.of_store_weaker}
use Rattle.office_desk.{specs.{Causes.LacksSome, Reports.TellsNext}, proofs.{PageLemmas.some_lacks, Faults.called}}
use Rattle.office_desk.proofs.accounts.tell_next.Goals as goal

pub returns-in_ok-to_string-in-Some-clause-told : goal.returns-in_ok-to_string-in-Some-clause-told
returns-in_ok-to_string-in-Some-clause-told g c clean rows has =
    let code = c.args.code.now in
    let there = called c.args.setup.now code code (Some c.in-Some.id) (sym c.in-Some.is ∙ c.partner_called.ensures) refl in
    subst (λ (o : Option ℕ). TellsNext rows o (Some (string_bytes c.in_ok-to_string-in-Some.field-0))) (sym there)
    (c.in_ok-number-in-Some.number, c.in_ok-number-in-Some.ensures.answer clean rows has, ap Some c.in_ok-to_string-in-Some.ensures.ok)

pub returns-in-None-clause-told : goal.returns-in-None-clause-told
returns-in-None-clause-told g c clean rows has =
    let code = c.args.code.now in
    subst (λ (o : Option ℕ). TellsNext rows o None) (sym (called c.args.setup.now code code None (sym c.in-None.is ∙ c.partner_called.ensures) refl)) refl

-- ---- why it can't be reported

pub returns-in_err-number-in-Some-clause-fault : goal.returns-in_err-number-in-Some-clause-fault
returns-in_err-number-in-Some-clause-fault g c clean =
    let items = c.args.setup.now.partners.items in
    let id = c.in-Some.id in
    let low = found_low 1 c.args.code.now (partner_codes items) id (sym c.partner_called.ensures ∙ c.in-Some.is) in
    let many = length-map items (λ (account : Account). string_bytes account.code) in
    let p = err_from_is_err_and c.from_residual.result c.from_residual.ensures.1 in
    rw (p.1, p.2) (λ rows has.
    of_store_weaker (LacksNext id rows) (LacksSome rows (length (account_contents items))) (λ lacks. some_lacks rows items id low.0 (omega (arith, low.1, many)) (inl lacks)) _
    (c.in_err-number-in-Some.ensures.fault clean rows has))
