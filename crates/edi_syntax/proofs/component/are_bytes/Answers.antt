-- The first bytes that differ tell the values apart.
use Rattle.std.proofs.{Common.{◌≡◌, ◌∷◌, sym, ◌∙◌}, lemmas.List.append_cancel_left, lemmas.Bool.false≢true}
use Rattle.edi_syntax.specs.Segment.{bytes_left}
use Rattle.edi_syntax.proofs.component.are_bytes.Goals as goal

pub returns-in_default : goal.returns-in_default
returns-in_default c = (
  λ no. absurd (false≢true no),
  λ same.
      let left : bytes_left c.loop-byte.byte-iterator ≡ c.loop-byte.rest.now =
      append_cancel_left c.loop-byte.yielded _ _ (sym c.loop-byte.invariant.passed ∙ same ∙ c.loop-byte.invariant.same) in
      let heads : c.in-Some.byte ∷ bytes_left c.next.new.self ≡ c.in-Some-split_first.first.now ∷ c.in-Some-split_first.behind.now =
      sym c.in-Some.ensures.steps ∙ left ∙ c.in-Some-split_first.ensures.cases.0 in
      let equal : c.in-Some-split_first.first.now ≡ c.in-Some.byte = cc in
      absurd (c.if-first-byte.false equal),
)
