use Rattle.std.proofs.Common.{◌≡◌, ◌<◌, List, length, slice_get, get_or, Some, None, true, false, refl, sym, ap, subst, arith, ◌∙◌, ◌+◌}
use Rattle.std.proofs.lemmas.Option.{slice_get-get_or}
use Rattle.edi_syntax.specs.{Segment.value, Heads.head_segments}
use Rattle.office_admission.specs.{Parties.parties_of, declared.setup.Account.Account}
use Rattle.office_admission.proofs.Admitting.{syntax_refused, stray_refused, text_admitted, body_fault_is, recipient_is, kind_there}
use Rattle.office_admission.proofs.admission.admit_from.Goals as goal

pub returns-in-Err-clause-err : goal.returns-in-Err-clause-err
returns-in-Err-clause-err c = λ text opened some.
    c.refused.ensures c.args.setup.now text (c.args.index + 1) opened some
    (syntax_refused (parties_of c.args.setup.now) text c.in-Err.fault (body_fault_is text c.args.head (Some c.in-Err.fault) opened c.in-Err.ensures.err))

pub returns-then-not-equals-clause-err : goal.returns-then-not-equals-clause-err
returns-then-not-equals-clause-err c = λ text opened some.
    let P = parties_of c.args.setup.now in
    let other = recipient_is P text (head_segments c.args.head) (value c.recipient.result) c.as_bytes.result.now false opened.segments c.recipient.ensures c.as_bytes.ensures.value (sym c.if-not-equals.true ∙ c.equals.ensures.test) in (
      stray_refused P text (c.args.index + 1) (body_fault_is text c.args.head None opened c.in-Ok.ensures.ok.0) some other,
      refl,
      opened.segments,
      (c.args.index + 1, some),
    )

pub returns-clause-ok : goal.returns-clause-ok
returns-clause-ok c = λ text opened some.
    let P = parties_of c.args.setup.now in
    let accounts = c.args.setup.now.partners.items in
    let same = sym c.as_slice-accounts.ensures in
    let there = c.as_slice-accounts.result.now in
    let account = get_or there c.args.index c.index-accounts-index.result in
    let low = subst (λ (l : List Account). c.args.index < length l) same c.requires.index in
    let is : slice_get accounts c.args.index ≡ Some account =
    ap (λ (l : List Account). slice_get l c.args.index) same ∙ slice_get-get_or there c.args.index c.index-accounts-index.result low in
    let ours = recipient_is P text (head_segments c.args.head) (value c.recipient.result) c.as_bytes.result.now true opened.segments c.recipient.ensures c.as_bytes.ensures.value (sym c.if-not-equals.false ∙ c.equals.ensures.test) in
    record {
      admits = text_admitted P text (c.args.index + 1) (body_fault_is text c.args.head None opened c.in-Ok.ensures.ok.0) some ours;
      kind = kind_there accounts c.args.index account is;
      segments = c.in-Ok.ensures.ok.1 ∙ opened.segments;
      from_one = omega arith;
      known = omega (arith, c.requires.index);
    }
