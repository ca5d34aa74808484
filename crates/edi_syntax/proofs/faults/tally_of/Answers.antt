-- The trailer of the interchange, after whole messages.
use Rattle.std.{specs.List.{list_all, list_any}, proofs.{Common.{◌||◌, ◌&&◌, Bool, List, length, sym, ap, ◌∙◌, refl, arith}, lemmas.Bool.eqb-true}}
use Rattle.std.proofs.lemmas.List.{nil_from_length}
use Rattle.edi_syntax.specs.{Segment.content, Checks.checked_left, Messages.{Message, is_counted, is_referenced}, Envelope.is_of_functional_group}
use Rattle.edi_syntax.proofs.TallyLemmas.{at_end, and_true, or_false}
use Rattle.edi_syntax.proofs.faults.tally_of.Goals as goal

pub loop-segment-init : goal.loop-segment-init
loop-segment-init c = record {
  framed = refl;
  counted = refl;
  referenced = refl;
  messages = omega arith;
  few = omega (arith, c.requires);
  last = (content c.args.header, refl);
  group = ap (λ (b : Bool). b || list_any is_of_functional_group (checked_left c.args.segments)) (sym c.is_of_functional_group-has_functional_group.ensures);
  all = refl;
}

pub returns-then-is_at_end : goal.returns-then-is_at_end
returns-then-is_at_end c =
    let i = c.loop-segment.invariant in
    let more = checked_left c.next_segment.new.self in
    let none = nil_from_length more (eqb-true (length more) 0 (sym c.is_at_end.ensures ∙ c.if-is_at_end.true)) in
    let found = at_end (checked_left c.loop-segment.rest) (content c.in-Some.segment) more c.in-Some.ensures.left none (sym c.has_tag-then-not-has_tag.ensures ∙ c.if-has_tag.true) in
    record {
      tally = record {
        framed = i.framed ∙ found.framed;
        counted = sym (i.counted ∙ ap (λ (ms : List Message). c.loop-segment.tally.are_counted && list_all is_counted ms) found.none ∙ and_true c.loop-segment.tally.are_counted);
        referenced = sym (i.referenced ∙ ap (λ (ms : List Message). c.loop-segment.tally.are_referenced && list_all is_referenced ms) found.none ∙ and_true c.loop-segment.tally.are_referenced);
        messages = omega (arith, i.messages, ap length found.none);
      };
      last = sym (i.last.1 ∙ found.last i.last.0);
      group = sym (i.group ∙ ap (λ (b : Bool). c.loop-segment.has_functional_group || b) found.group ∙ or_false c.loop-segment.has_functional_group);
      all = i.all ∙ c.in-Some.ensures.all;
      done = none;
    }
