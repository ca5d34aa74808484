use Rattle.std.proofs.Common.{true, false, refl, sym, ◌∙◌}
use Rattle.office_http.proofs.Joined.{joined_by}
use Rattle.office_http.proofs.site.is_joined.Goals as goal

pub returns-then-is_named : goal.returns-then-is_named
returns-then-is_named c =
    joined_by c.args.text.now c.args.front.now c.args.rest.now _ _ true _ c.if-end-text.false c.split_at.ensures.front c.split_at.ensures.back
    (sym c.if-is_named.true ∙ c.is_named.ensures) c.is_named-then-is_named.ensures

pub returns-else-is_named : goal.returns-else-is_named
returns-else-is_named c =
    c.if-is_named.false
    ∙ joined_by c.args.text.now c.args.front.now c.args.rest.now _ _ false _ c.if-end-text.false c.split_at.ensures.front c.split_at.ensures.back
    (sym c.if-is_named.false ∙ c.is_named.ensures) refl
