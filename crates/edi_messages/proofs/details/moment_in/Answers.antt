-- The values of the first element, one after the other.
use Rattle.std.proofs.Common.{ℕ, List, [], ◌∷◌, sym, ap, ◌∙◌}
use Rattle.edi_syntax.specs.Segment.{content, value}
use Rattle.edi_messages.proofs.DetailLemmas.{two_values, three_values, moment_by_values, moment_with_time, moment_without_time, moment_unread}
use Rattle.edi_messages.proofs.details.moment_in.Goals as goal

pub returns-in_err-next : goal.returns-in_err-next
returns-in_err-next c =
    rw c.from_residual.ensures
    (sym (moment_by_values (content c.args.segment.now) [] c.requires
    (sym c.components-values.ensures ∙ c.in_err-next.ensures.steps.0)))

pub returns-in_err-text : goal.returns-in_err-text
returns-in_err-text c =
    rw c.from_residual-in_err-text.ensures
    (sym (moment_by_values (content c.args.segment.now) _ c.requires
    (sym c.components-values.ensures ∙ c.in_ok-next.ensures.steps ∙ ap (λ (v : List (List ℕ)). value c.in_ok-next.field-0 ∷ v) c.in_err-text.ensures.steps.0)))

pub returns-in_err-format : goal.returns-in_err-format
returns-in_err-format c =
    rw c.from_residual-in_err-format.ensures
    (sym (moment_by_values (content c.args.segment.now) _ c.requires
    (two_values _ _ _ _ _ (sym c.components-values.ensures ∙ c.in_ok-next.ensures.steps) c.in_ok-text.ensures.steps
    ∙ ap (λ (v : List (List ℕ)). value c.in_ok-next.field-0 ∷ value c.in_ok-text.text ∷ v) c.in_err-format.ensures.steps.0)))

pub returns-then-is_value : goal.returns-then-is_value
returns-then-is_value c =
    sym (moment_by_values (content c.args.segment.now) _ c.requires
    (three_values _ _ _ _ _ _ _ (sym c.components-values.ensures ∙ c.in_ok-next.ensures.steps) c.in_ok-text.ensures.steps c.in_ok-format.ensures.steps)
    ∙ moment_with_time (value c.in_ok-format.format) (value c.in_ok-text.text) (sym c.is_value.ensures ∙ c.if-is_value.true))

pub returns-then-is_value-2 : goal.returns-then-is_value-2
returns-then-is_value-2 c =
    sym (moment_by_values (content c.args.segment.now) _ c.requires
    (three_values _ _ _ _ _ _ _ (sym c.components-values.ensures ∙ c.in_ok-next.ensures.steps) c.in_ok-text.ensures.steps c.in_ok-format.ensures.steps)
    ∙ moment_without_time (value c.in_ok-format.format) (value c.in_ok-text.text) (sym c.is_value.ensures ∙ c.if-is_value.false)
    (sym c.is_value-else-is_value.ensures ∙ c.if-is_value-2.true))

pub returns-else-is_value-2 : goal.returns-else-is_value-2
returns-else-is_value-2 c =
    sym (moment_by_values (content c.args.segment.now) _ c.requires
    (three_values _ _ _ _ _ _ _ (sym c.components-values.ensures ∙ c.in_ok-next.ensures.steps) c.in_ok-text.ensures.steps c.in_ok-format.ensures.steps)
    ∙ moment_unread (value c.in_ok-format.format) (value c.in_ok-text.text) (sym c.is_value.ensures ∙ c.if-is_value.false)
    (sym c.is_value-else-is_value.ensures ∙ c.if-is_value-2.false))
