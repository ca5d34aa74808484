-- One segment more, which is the trailer or stands before it.
use Rattle.std.{specs.List.list_any, proofs.Common.{◌≡◌, ◌||◌, Bool, length, sym, ap, ◌∙◌, refl, arith, true}}
use Rattle.edi_syntax.specs.{Segment.content, Checks.checked_left, Messages.{ends_message, is_inner}, Envelope.is_of_functional_group}
use Rattle.edi_syntax.proofs.{TallyLemmas.{at_trailer, within}, frames.message_end.Goals.{then-has_functional_group, else-has_functional_group}}
use Rattle.edi_syntax.proofs.frames.message_end.Goals as goal

pub loop-segment-init : goal.loop-segment-init
loop-segment-init c = record {
  between = omega arith;
  trailer = refl;
  framed = refl;
  others = refl;
  few = omega arith;
  last = λ before. (before, refl);
  group = refl;
  all = refl;
}

pub returns-then-has_tag : goal.returns-then-has_tag
returns-then-has_tag c =
    let i = c.loop-segment.invariant in
    let left = c.in-Some.ensures.left in
    let ends : ends_message (content c.in-Some.segment) ≡ true = sym c.has_tag.ensures ∙ c.if-has_tag.true in
    let found = at_trailer (checked_left c.loop-segment.rest) (content c.in-Some.segment) (checked_left c.next_segment.new.self) left ends in
    record {
      between = omega (arith, i.between, ap length found.before);
      trailer = sym (i.trailer ∙ found.trailer_is);
      framed = i.framed ∙ found.framed;
      others = i.others ∙ found.others;
      few = omega (arith, i.few);
      fewer = omega (arith, i.few, ap length left);
      last = λ before. (i.last before).1 ∙ found.last (i.last before).0;
      group = i.group ∙ ap (λ (b : Bool). c.loop-segment.has_functional_group || b) found.group;
      all = i.all ∙ c.in-Some.ensures.all;
    }

pub loop-segment-preserved : goal.loop-segment-preserved
loop-segment-preserved c =
    let i = c.loop-segment.invariant in
    let left = c.in-Some.ensures.left in
    let inner : is_inner (content c.in-Some.segment) ≡ true = sym c.is_inner.ensures ∙ c.if-not-is_inner.false in
    let found = within (checked_left c.loop-segment.rest) (content c.in-Some.segment) (checked_left c.next_segment.new.self) left inner in
    let rest = list_any is_of_functional_group (checked_left c.next_segment.new.self) in
    let group : (c.loop-segment.has_functional_group || (is_of_functional_group (content c.in-Some.segment) || rest)) ≡ (c.if-has_functional_group.has_functional_group || rest) =
    elim c.if-has_functional_group.branch [
      | then-has_functional_group w ↦ rw (w.has_functional_group-is, w.if-has_functional_group.true) refl
      | else-has_functional_group w ↦ rw (w.has_functional_group-is, w.if-has_functional_group.false, w.is_of_functional_group-has_functional_group.ensures) refl
    ] in
    record {
      between = omega (arith, i.between, ap length found.before);
      trailer = i.trailer ∙ found.trailer_is;
      framed = i.framed ∙ found.framed;
      others = i.others ∙ found.others;
      few = omega (arith, i.few, ap length left);
      last = λ before. (content c.in-Some.segment, (i.last before).1 ∙ found.last (i.last before).0);
      group = i.group ∙ ap (λ (b : Bool). c.loop-segment.has_functional_group || b) found.group ∙ group;
      all = i.all ∙ c.in-Some.ensures.all;
    }
