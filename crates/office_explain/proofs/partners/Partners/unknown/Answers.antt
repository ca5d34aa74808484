-- The constants are what the definitions say.
use Rattle.std.proofs.{Common.{List, ℕ, subst, sym}, lemmas.Result.err_from_is_err_and}
use Rattle.office_admission.specs.{Setups.setup_content, declared.setup.Setup.Setup}
use Rattle.office_explain.specs.Said.{RefuseFiles, SayFiles, no_partners, one_block}
use Rattle.office_explain.proofs.partners.Partners.unknown.Goals as goal

pub returns-in_err-setup-clause-err : goal.returns-in_err-setup-clause-err
returns-in_err-setup-clause-err c =
    let p = err_from_is_err_and c.from_residual.result c.from_residual.ensures.1 in
    rw (p.1, p.2) (subst (λ (partners : List ℕ). RefuseFiles partners one_block c.in_err-setup.field-0.0) c.as_bytes.ensures.value
    (subst (λ (blocks : List ℕ). RefuseFiles c.as_bytes.result.now blocks c.in_err-setup.field-0.0) c.as_bytes-2.ensures.value c.in_err-setup.ensures.err))

pub returns-clause-said : goal.returns-clause-said
returns-clause-said c =
    subst (λ (s : Setup). SayFiles no_partners one_block (setup_content s)) (sym c.partners_of.ensures.setup)
    (subst (λ (partners : List ℕ). SayFiles partners one_block (setup_content c.in_ok-setup.setup)) c.as_bytes.ensures.value
    (subst (λ (blocks : List ℕ). SayFiles c.as_bytes.result.now blocks (setup_content c.in_ok-setup.setup)) c.as_bytes-2.ensures.value c.in_ok-setup.ensures.ok))
