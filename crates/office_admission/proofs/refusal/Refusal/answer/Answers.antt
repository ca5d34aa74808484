use Rattle.std.proofs.Common.{sym, subst}
use Rattle.edi_syntax.specs.{Interchange.segments_in, Envelope.header_of, Heads.head_segments}
use Rattle.office_replies.specs.{Contents.GivesOrNotNow, declared.deliver.Response.TheVariants.Refused}
use Rattle.office_admission.specs.{Parties.parties_of, Admission.sender_of, Outcomes.{IsRefused, fault_in}, Refusals.{error_of, refusal_of}}
use Rattle.office_admission.specs.{declared.refusal.Refusal.Refusal, declared.refusal.Refusal.TheVariants.{Plain, WithContrl}}
use Rattle.office_admission.proofs.Admitting.{refused_plainly, plainly_sure, owed, owed_sure}
use Rattle.office_admission.proofs.refusal.Refusal.answer.Goals as goal

pub returns-in-Plain-clause-answer : goal.returns-in-Plain-clause-answer
returns-in-Plain-clause-answer c = λ setup text is.
    let header = header_of (segments_in text) in
    let fault = c.in-Plain.fault in
    let here : IsRefused setup text (Plain fault) = subst (IsRefused setup text) c.in-Plain.is is in
    subst (λ (refusal : Refusal). GivesOrNotNow (refusal_of (parties_of setup) header (fault_in refusal)) (Refused fault)) (sym c.in-Plain.is)
    (refused_plainly header fault (sender_of (parties_of setup) header) (error_of fault) here.1)

pub returns-in-Plain-clause-sure : goal.returns-in-Plain-clause-sure
returns-in-Plain-clause-sure c = λ setup text is.
    let here : IsRefused setup text (Plain c.in-Plain.fault) = subst (IsRefused setup text) c.in-Plain.is is in
    plainly_sure (parties_of setup) text c.in-Plain.fault here.0

pub returns-in-WithContrl-clause-answer : goal.returns-in-WithContrl-clause-answer
returns-in-WithContrl-clause-answer c = λ setup text is.
    let header = header_of (segments_in text) in
    let w = c.in-WithContrl in
    let here : IsRefused setup text (WithContrl w.fault w.error w.head) = subst (IsRefused setup text) w.is is in
    subst (λ (refusal : Refusal). GivesOrNotNow (refusal_of (parties_of setup) header (fault_in refusal)) c.reject.result) (sym w.is)
    (owed (parties_of setup) text w.fault w.error here.3.0 (head_segments w.head) c.reject.result here.1 here.2 here.3.1 c.reject.ensures)

pub returns-in-WithContrl-clause-sure : goal.returns-in-WithContrl-clause-sure
returns-in-WithContrl-clause-sure c = λ setup text is.
    let w = c.in-WithContrl in
    let here : IsRefused setup text (WithContrl w.fault w.error w.head) = subst (IsRefused setup text) w.is is in
    owed_sure (parties_of setup) text w.fault w.error here.3.0 c.reject.result here.0 here.1 here.3.1
