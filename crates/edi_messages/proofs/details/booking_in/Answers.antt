-- The values of the first element, one after the other.
use Rattle.std.proofs.Common.{◌≡◌, [], false, true, Some, refl, sym, ap, ◌∙◌}
use Rattle.edi_syntax.specs.{Segment.content, Text.element_of}
use Rattle.edi_messages.proofs.DetailLemmas.{two_values, booking_by_values, booking_named}
use Rattle.edi_messages.proofs.details.booking_in.Goals as goal

pub returns-in_err-qualifier : goal.returns-in_err-qualifier
returns-in_err-qualifier c =
    let values : element_of (content c.args.segment.now) 1 ≡ [] =
    sym c.components-values.ensures ∙ c.in_err-qualifier.ensures.steps.0 in
    rw c.from_residual.ensures (sym (booking_by_values (content c.args.segment.now) [] false c.requires values refl))

pub returns-then-not-is_value : goal.returns-then-not-is_value
returns-then-not-is_value c =
    sym (booking_by_values (content c.args.segment.now) _ false c.requires
    (sym c.components-values.ensures ∙ c.in_ok-qualifier.ensures.steps) (sym c.is_value.ensures ∙ c.if-not-is_value.true))

pub returns-in-Some : goal.returns-in-Some
returns-in-Some c =
    sym (booking_by_values (content c.args.segment.now) _ true c.requires
    (two_values _ _ _ _ _ (sym c.components-values.ensures ∙ c.in_ok-qualifier.ensures.steps) c.in-Some.ensures.steps)
    (sym c.is_value.ensures ∙ c.if-not-is_value.false))

pub returns-in-None : goal.returns-in-None
returns-in-None c =
    ap Some c.component.ensures
    ∙ booking_named (content c.args.segment.now) _ c.requires
    (sym c.components-values.ensures ∙ c.in_ok-qualifier.ensures.steps) (sym c.is_value.ensures ∙ c.if-not-is_value.false)
