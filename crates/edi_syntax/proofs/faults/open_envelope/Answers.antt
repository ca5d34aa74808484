-- The first fault of the head, or that of the body.
use Rattle.std.proofs.{Common.{List, sym, ap, subst, ◌∙◌}, lemmas.Result.{IfOk-weaker, IfErr-weaker, err_from_is_err_and}}
use Rattle.edi_syntax.{specs.{Text.Content, Interchange.InterchangeText, Faults.body_fault_of}, proofs.BlockLemmas.{of_head, of_body}}
use Rattle.edi_syntax.proofs.faults.open_envelope.Goals as goal

pub returns-in_err-open-clause-err : goal.returns-in_err-open-clause-err
returns-in_err-open-clause-err c =
    let p = err_from_is_err_and c.from_residual.result c.from_residual.ensures.1 in
    rw (p.1, p.2) (of_head c.args.text.now c.in_err-open.field-0.0 c.in_err-open.ensures.err)

pub returns-clause-err : goal.returns-clause-err
returns-clause-err c =
    IfErr-weaker c.body.result _ _ (λ fault found. of_body c.args.text.now c.in_ok-open.ensures.ok.0 ∙ ap body_fault_of (sym c.in_ok-open.ensures.ok.1) ∙ found) c.body.ensures.err

pub returns-clause-spelled : goal.returns-clause-spelled
returns-clause-spelled c =
    IfOk-weaker c.body.result _ _ (λ envelope found. subst (λ (segments : List Content). InterchangeText segments c.args.text.now) (sym found.1) c.in_ok-open.ensures.spelled) c.body.ensures.ok
