-- The first fault of the bytes, or that of envelope and header.
use Rattle.std.proofs.{Common.{◌≡◌, Bool, List, sym, ap, subst, ◌∙◌}, lemmas.Result.{IfOk-weaker, IfErr-weaker, err_from_is_err_and}}
use Rattle.edi_syntax.specs.{Text.Content, Checks.{checked_left, are_all}, Interchange.{InterchangeText, segments_in, is_segment_text}}
use Rattle.edi_syntax.{specs.Faults.{header_faults, segments_fault, head_fault_of}, proofs.BlockLemmas.{head_fault_is, of_bytes}}
use Rattle.edi_syntax.proofs.head.Head.open.Goals as goal

pub returns-in_err-check-clause-err : goal.returns-in_err-check-clause-err
returns-in_err-check-clause-err c =
    let p = err_from_is_err_and c.from_residual.result c.from_residual.ensures.1 in
    rw (p.1, p.2) (of_bytes c.args.text.now header_faults c.in_err-check.field-0.0 c.if-text-gt-MOST_BYTES.false c.in_err-check.ensures.err)

left_is : (c : goal.After-of-2) → checked_left c.segments.result ≡ segments_in c.args.text.now
left_is c = c.segments.ensures.left ∙ c.in_ok-check.ensures.ok.1

all_is : (c : goal.After-of-2) → are_all c.segments.result ≡ is_segment_text c.args.text.now
all_is c = c.segments.ensures.all ∙ c.in_ok-check.ensures.ok.2

faults_are : (c : goal.After-of-2) → head_fault_of c.args.text.now ≡ segments_fault (are_all c.segments.result) (checked_left c.segments.result)
faults_are c =
    head_fault_is c.args.text.now c.if-text-gt-MOST_BYTES.false c.in_ok-check.ensures.ok.0
    ∙ ap (λ (b : Bool). segments_fault b (segments_in c.args.text.now)) (sym (all_is c)) ∙ ap (segments_fault (are_all c.segments.result)) (sym (left_is c))

pub returns-clause-ok : goal.returns-clause-ok
returns-clause-ok c =
    IfOk-weaker c.of-2.result _ _ (λ head found. (faults_are c ∙ ap (λ (b : Bool). segments_fault b (checked_left c.segments.result)) found.0 ∙ found.1, found.2 ∙ left_is c)) c.of-2.ensures.ok

pub returns-clause-err : goal.returns-clause-err
returns-clause-err c =
    IfErr-weaker c.of-2.result _ _ (λ fault found. faults_are c ∙ found) c.of-2.ensures.err

pub returns-clause-spelled : goal.returns-clause-spelled
returns-clause-spelled c =
    IfOk-weaker c.of-2.result _ _ (λ head found. subst (λ (segments : List Content). InterchangeText segments c.args.text.now) (sym c.segments.ensures.left ∙ sym found.2) (c.in_ok-check.ensures.spelled (sym c.segments.ensures.all ∙ found.0))) c.of-2.ensures.ok
