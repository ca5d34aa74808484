use Rattle.std.proofs.Common.{Some, None, inl, inr, ◌+◌}
use Rattle.edi_syntax.{specs.{Segment.value, Heads.head_segments}, proofs.BlockLemmas.of_head}
use Rattle.office_admission.{specs.{Parties.parties_of, Outcomes.IsOpened}, proofs.Admitting.{syntax_refused, no_error, sender_is}}
use Rattle.office_admission.proofs.Adding.{ok_weaker, err_weaker}
use Rattle.office_admission.proofs.admission.admit.Goals as goal

pub returns-in-Err-clause-err : goal.returns-in-Err-clause-err
returns-in-Err-clause-err c =
    let text = c.args.text.now in
    let fault = c.in-Err.fault in
    let found = c.in-Err.ensures.err in
    (syntax_refused (parties_of c.args.setup.now) text fault (of_head text fault found), inr (no_error text fault found))

pub returns-in-Some-clause-ok : goal.returns-in-Some-clause-ok
returns-in-Some-clause-ok c =
    let text = c.args.text.now in
    let P = parties_of c.args.setup.now in
    let same = c.in-Ok.ensures.ok.1 in
    let opened : IsOpened text c.in-Ok.head = record { faultless = c.in-Ok.ensures.ok.0; segments = same } in
    let some = sender_is P text (head_segments c.in-Ok.head) (value c.sender.result) (Some (c.in-Some.index + 1)) same c.sender.ensures c.in-Some.ensures.number in
    ok_weaker c.admit_from.result _ _ (λ admitted holds. holds text opened some) c.admit_from.ensures.ok

pub returns-in-Some-clause-err : goal.returns-in-Some-clause-err
returns-in-Some-clause-err c =
    let text = c.args.text.now in
    let P = parties_of c.args.setup.now in
    let same = c.in-Ok.ensures.ok.1 in
    let opened : IsOpened text c.in-Ok.head = record { faultless = c.in-Ok.ensures.ok.0; segments = same } in
    let some = sender_is P text (head_segments c.in-Ok.head) (value c.sender.result) (Some (c.in-Some.index + 1)) same c.sender.ensures c.in-Some.ensures.number in
    err_weaker c.admit_from.result _ _ (λ refusal holds. holds text opened some) c.admit_from.ensures.err

pub returns-in-None-clause-err : goal.returns-in-None-clause-err
returns-in-None-clause-err c =
    let text = c.args.text.now in
    let P = parties_of c.args.setup.now in
    let same = c.in-Ok.ensures.ok.1 in
    let opened : IsOpened text c.in-Ok.head = record { faultless = c.in-Ok.ensures.ok.0; segments = same } in
    let none = sender_is P text (head_segments c.in-Ok.head) (value c.sender.result) None same c.sender.ensures c.in-None.ensures.number in
    (c.stranger_fault.ensures c.args.setup.now text opened none, inl none)
